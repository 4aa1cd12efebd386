-- The sheet rules of Q-4: which numbers are one, and the longest sheet that passes by each, and the next.
use Rattle.std.specs.Prelude.{◌≡◌, true, false, List, [], ◌∷◌, ℕ}
use Rattle.travel.specs.TravelTime.{rule_good, sheet_limit, segments_good}

-- one segment of sheet flow of a length: n 0.240, 2-year rain 3.600 in, slope 0.0100
abbrev pub sheet_of : ℕ → List ℕ
sheet_of L = 4 ∷ L ∷ 240 ∷ 3600 ∷ 100 ∷ []

pub record Rules : Type 0 where
  -- 20: 1 and 2 pass
  pub no_rule : rule_good 0 ≡ false
  pub first_rule : rule_good 1 ≡ true
  pub second_rule : rule_good 2 ≡ true
  pub third_rule : rule_good 3 ≡ false
  pub greatest_rule : rule_good 18446744073709551615 ≡ false
  -- 7, by rule 1: 300 ft pass
  pub one_passes : segments_good (sheet_limit 1) (sheet_of 300) ≡ true
  pub one_refuses : segments_good (sheet_limit 1) (sheet_of 301) ≡ false
  -- by rule 2: 100 ft pass
  pub two_passes : segments_good (sheet_limit 2) (sheet_of 100) ≡ true
  pub two_refuses : segments_good (sheet_limit 2) (sheet_of 101) ≡ false
