-- Kinds 4 and 5: what fits the limbs, that 2^23 is past every root, and how long they take at most. Assumes nothing.
use mathlib.Core.Path.{◌≡◌}
use mathlib.Core.Logic.{◌↔◌}
use Prim.Native.Nat.{ℕ, ◌+◌, ◌*◌, ◌^◌, ◌≤◌, ◌<◌}
use lib.Dec.{T, ltb, lit<, lit≤}
use native.Mathlib.Nat.{le_refl, lt_of_le_of_lt, lt_of_lt_of_le, mul-le-mul, pow-le-pow_left}
use Rattle.wide.specs.Limbs.{room, Factor}
use Rattle.roots.specs.Largest.{most_power}
use Rattle.travel.specs.TravelTime.{sheet, channel}
use Rattle.travel.specs.Needs.{farthest_sheet, SheetOk, ChannelOk, most_segment_time}
use Rattle.roots.proofs.Powers.{powers_is, powers_most, powers_found}

-- a number at most one that fits the limbs fits them
pub in_room : (M : ℕ) {x : ℕ} → x ≤ M → T (ltb M (2 ^ 384)) → x < room
unfolding room
in_room M l t = lt_of_le_of_lt l (lit< t)

-- a number at most one is below another that is at least one, where those are
pub apart : (M m : ℕ) {x y : ℕ} → x ≤ M → m ≤ y → T (ltb M m) → x < y
apart M m l k t = lt_of_lt_of_le (lt_of_le_of_lt l (lit< t)) k

-- roughness times length is a factor of a power
pub span_factor : {n L : ℕ} → 1 ≤ n → n ≤ 999 → 1 ≤ L → L ≤ 4000 → Factor (n * L)
span_factor a b c d = record { least = mul-le-mul a c; most = lt_of_le_of_lt (mul-le-mul b d) (lit< tt) }

module _ {L n P s : ℕ} (ok : SheetOk L n P s) where
  pub sheet_top : 252 ^ 10 * (n * L) ^ 8 ≤ 252 ^ 10 * (999 * farthest_sheet) ^ 8
  sheet_top = mul-le-mul (le_refl (252 ^ 10)) (pow-le-pow_left (mul-le-mul ok.n_most ok.length_most) 8)

  pub sheet_bottom : P ^ 5 * s ^ 4 * 1000 ≤ 30000 ^ 5 * 10000 ^ 4 * 1000
  sheet_bottom = mul-le-mul (mul-le-mul (pow-le-pow_left ok.rain_most 5) (pow-le-pow_left ok.slope_most 4)) (le_refl 1000)

  pub sheet_least : 1000 ≤ P ^ 5 * s ^ 4 * 1000
  sheet_least = mul-le-mul (mul-le-mul (pow-le-pow_left ok.rain_least 5) (pow-le-pow_left ok.slope_least 4)) (le_refl 1000)

  -- 2^23 is past the root
  pub sheet_past : 252 ^ 10 * (n * L) ^ 8 < (most_power + 1) ^ 10 * (P ^ 5 * s ^ 4 * 1000)
  sheet_past = apart (252 ^ 10 * (999 * farthest_sheet) ^ 8) ((most_power + 1) ^ 10 * 1000) sheet_top (mul-le-mul (le_refl ((most_power + 1) ^ 10)) sheet_least) tt

  -- and there the left side still fits
  pub sheet_fits : (most_power + 1) ^ 10 * (P ^ 5 * s ^ 4 * 1000) < room
  sheet_fits = in_room _ (mul-le-mul (le_refl ((most_power + 1) ^ 10)) sheet_bottom) tt

  -- the time is the largest of all whole numbers, whatever the bound of the search
  pub sheet_is : (T : ℕ) → (T ^ 10 * (P ^ 5 * s ^ 4 * 1000) ≤ 252 ^ 10 * (n * L) ^ 8) ↔ (T ≤ sheet L n P s)
  unfolding sheet
  sheet_is = powers_is 10 (P ^ 5 * s ^ 4 * 1000) (252 ^ 10 * (n * L) ^ 8) most_power (lit≤ tt) sheet_past

  -- it is at most that of the slowest channel
  pub sheet_most : sheet L n P s ≤ most_segment_time
  unfolding sheet
  sheet_most =
      powers_most 10 (P ^ 5 * s ^ 4 * 1000) (252 ^ 10 * (n * L) ^ 8) most_power most_segment_time (lit≤ tt)
      (apart (252 ^ 10 * (999 * farthest_sheet) ^ 8) ((most_segment_time + 1) ^ 10 * 1000) sheet_top (mul-le-mul (le_refl ((most_segment_time + 1) ^ 10)) sheet_least) tt)

module _ {L n r s : ℕ} (ok : ChannelOk L n r s) where
  pub channel_top : (n * L) ^ 6 * 10 ^ 14 ≤ (999 * 4000) ^ 6 * 10 ^ 14
  channel_top = mul-le-mul (pow-le-pow_left (mul-le-mul ok.n_most ok.length_most) 6) (le_refl (10 ^ 14))

  pub channel_bottom : 149 ^ 6 * r ^ 4 * s ^ 3 ≤ 149 ^ 6 * 10000 ^ 4 * 10000 ^ 3
  channel_bottom = mul-le-mul (mul-le-mul (le_refl (149 ^ 6)) (pow-le-pow_left ok.radius_most 4)) (pow-le-pow_left ok.slope_most 3)

  pub channel_least : 149 ^ 6 ≤ 149 ^ 6 * r ^ 4 * s ^ 3
  channel_least = mul-le-mul (mul-le-mul (le_refl (149 ^ 6)) (pow-le-pow_left ok.radius_least 4)) (pow-le-pow_left ok.slope_least 3)

  -- 2^23 is past the root
  pub channel_past : (n * L) ^ 6 * 10 ^ 14 < (most_power + 1) ^ 6 * (149 ^ 6 * r ^ 4 * s ^ 3)
  channel_past = apart ((999 * 4000) ^ 6 * 10 ^ 14) ((most_power + 1) ^ 6 * 149 ^ 6) channel_top (mul-le-mul (le_refl ((most_power + 1) ^ 6)) channel_least) tt

  -- and there the left side still fits
  pub channel_fits : (most_power + 1) ^ 6 * (149 ^ 6 * r ^ 4 * s ^ 3) < room
  channel_fits = in_room _ (mul-le-mul (le_refl ((most_power + 1) ^ 6)) channel_bottom) tt

  -- the time is the largest of all whole numbers, whatever the bound of the search
  pub channel_is : (T : ℕ) → (T ^ 6 * (149 ^ 6 * r ^ 4 * s ^ 3) ≤ (n * L) ^ 6 * 10 ^ 14) ↔ (T ≤ channel L n r s)
  unfolding channel
  channel_is = powers_is 6 (149 ^ 6 * r ^ 4 * s ^ 3) ((n * L) ^ 6 * 10 ^ 14) most_power (lit≤ tt) channel_past

  -- it is at most that of the roughest and longest at the least radius and slope
  pub channel_most : channel L n r s ≤ most_segment_time
  unfolding channel
  channel_most =
      powers_most 6 (149 ^ 6 * r ^ 4 * s ^ 3) ((n * L) ^ 6 * 10 ^ 14) most_power most_segment_time (lit≤ tt)
      (apart ((999 * 4000) ^ 6 * 10 ^ 14) ((most_segment_time + 1) ^ 6 * 149 ^ 6) channel_top (mul-le-mul (le_refl ((most_segment_time + 1) ^ 6)) channel_least) tt)

-- two figures to check, of TR-55's example 3-1, each by a T that passes where the next does not: 100 ft of dense grass at one per cent under 3.6 in of rain, and half of its 7,300 ft of channel
pub sheet_figure : sheet 100 240 3600 100 ≡ 1065
unfolding sheet
sheet_figure = powers_found 10 (3600 ^ 5 * 100 ^ 4 * 1000) (252 ^ 10 * (240 * 100) ^ 8) most_power 1065 (lit≤ tt) (lit< tt) (lit≤ tt)

pub channel_figure : channel 3650 50 96 50 ≡ 1779
unfolding channel
channel_figure = powers_found 6 (149 ^ 6 * 96 ^ 4 * 50 ^ 3) ((50 * 3650) ^ 6 * 10 ^ 14) most_power 1779 (lit≤ tt) (lit< tt) (lit≤ tt)
