-- Runoff never falls as the rain rises, nor as the curve number does, and is never more than the rain. Assumes nothing.
use mathlib.Core.Path.{◌≡◌, ap, subst}
use mathlib.Core.Logic.{⊎_elim}
use Prim.Native.Nat.{ℕ, ◌+◌, ◌-◌, ◌*◌, ◌/◌, ◌≤◌, ◌<◌}
use native.Mathlib.Nat.{mul-le-mul, mul-le-mul_left, div-le_of_le-mul}
use native.Mathlib.Omega.{arith}
use borrow.Author.Tests.{le-leb, lt-leb}
use Rattle.laws.proofs.Num.{below_or_not, div_cross}
use Rattle.curve.specs.Needs.{CurveOk}
use Rattle.laws.specs.Limits.{most_rain}
use Rattle.runoff.specs.RunoffDepth.{N, M, depth}

-- with N above 0 the depth is the quotient
pub depth_some : (c p : ℕ) → 2000000 < c * p + 2000 * c → depth c p ≡ 1000 * (N c p * N c p) / (c * M c p)
unfolding depth
depth_some c p l = rw (lt-leb (c * p + 2000 * c) 2000000 l)

-- with N at most 0 there is none
pub depth_none : (c p : ℕ) → c * p + 2000 * c ≤ 2000000 → depth c p ≡ 0
unfolding depth
depth_none c p l = rw (le-leb (c * p + 2000 * c) 2000000 l)

-- n^2 m' is at most n'^2 m, where both numbers grow by d and n is at most m
grown : (n m d : ℕ) → n ≤ m → (n * n) * (m + d) ≤ ((n + d) * (n + d)) * m
grown n m d l = omega (arith, mul-le-mul_left (n * d) l)

-- and so with factors
scaled : (c n m d : ℕ) → n ≤ m → (1000 * (n * n)) * (c * (m + d)) ≤ (1000 * ((n + d) * (n + d))) * (c * m)
scaled c n m d l = omega (arith, mul-le-mul_left c (grown n m d l))

module _ (c : ℕ) (ok : CurveOk c) where
  -- N is at most M, and at most c p
  n_m : (p : ℕ) → N c p ≤ M c p
  n_m p = omega (arith, ok.most)

  n_rain : (p : ℕ) → N c p ≤ c * p
  n_rain p = omega (arith, ok.most)

  -- the divisor is not 0
  pub m_some : (p : ℕ) → 0 < c * M c p
  m_some p = mul-le-mul {n₁ = 1} {m₁ = 1} (omega (arith, ok.least)) (omega (arith, ok.most))

-- a depth is at most another, where N of the other is above 0 once its own is and the products across say so: else it is 0
compared : (c p d q : ℕ) → CurveOk c → CurveOk d → (2000000 < c * p + 2000 * c → 2000000 < d * q + 2000 * d)
    → (2000000 < c * p + 2000 * c → (1000 * (N c p * N c p)) * (d * M d q) ≤ (1000 * (N d q * N d q)) * (c * M c p))
    → depth c p ≤ depth d q
compared c p d q ok other wetted across = ⊎_elim wet dry (below_or_not 2000000 (c * p + 2000 * c))
  where
    wet : 2000000 < c * p + 2000 * c → depth c p ≤ depth d q
    wet h =
        rw (depth_some c p h, depth_some d q (wetted h))
        (div_cross (1000 * (N c p * N c p)) (c * M c p) (1000 * (N d q * N d q)) (d * M d q) (m_some c ok p) (m_some d other q) (across h))

    dry : c * p + 2000 * c ≤ 2000000 → depth c p ≤ depth d q
    dry h = rw (depth_none c p h) (omega arith)

module _ (c : ℕ) (ok : CurveOk c) where
  -- it never falls as the rain rises
  pub depth_rises : (p q : ℕ) → p ≤ q → depth c p ≤ depth c q
  depth_rises p q l = compared c p c q ok ok (λ h. omega (arith, more)) across
    where
      more : c * p ≤ c * q
      more = mul-le-mul_left c l

      across : 2000000 < c * p + 2000 * c → (1000 * (N c p * N c p)) * (c * M c q) ≤ (1000 * (N c q * N c q)) * (c * M c p)
      across h =
          let d = c * q - c * p in
          let n : N c q ≡ N c p + d = omega (arith, more) in
          let m : M c q ≡ M c p + d = omega (arith, more, ok.most) in
          rw (n, m) (scaled c (N c p) (M c p) d (n_m c ok p))

  -- it is at most 1,000 times the rain, the rain itself in its unit
  pub depth_most : (p : ℕ) → depth c p ≤ 1000 * p
  depth_most p =
      ⊎_elim
      (λ h. rw (depth_some c p h) (div-le_of_le-mul (c * M c p) (omega (arith, mul-le-mul (n_rain c ok p) (n_m c ok p)))))
      (λ h. rw (depth_none c p h) (omega arith))
      (below_or_not 2000000 (c * p + 2000 * c))

  -- so it is at most 30,000,000 within the limits
  pub depth_bound : (p : ℕ) → p ≤ most_rain → depth c p ≤ 30000000
  depth_bound p l = omega (arith, depth_most p)

-- N / c and N / M, and so their product, never fall where c grows by e: N grows by e (p + 2000), and M with 8000 e is e p more
steeper : (c e p n m m' : ℕ) → n ≤ m → n ≤ c * p + 2000 * c → m' + 8000 * e ≡ m + e * p
    → (1000 * (n * n)) * ((c + e) * m') ≤ (1000 * ((n + e * p + 2000 * e) * (n + e * p + 2000 * e))) * (c * m)
steeper c e p n m m' below wetted grows =
    let by-c : n * (c + e) ≤ (n + e * p + 2000 * e) * c = omega (arith, mul-le-mul_left e wetted) in
    let by-m : n * m' ≤ (n + e * p + 2000 * e) * m = omega (arith, ap (λ (z : ℕ). n * z) grows, mul-le-mul_left (e * p) below) in
    omega (arith, mul-le-mul by-c by-m)

-- with the rain fixed, a curve number that is higher by e never gives less
raised : (c e p : ℕ) → CurveOk c → CurveOk (c + e) → depth c p ≤ depth (c + e) p
raised c e p ok high = compared c p (c + e) p ok high (λ h. omega arith) across
  where
    across : 2000000 < c * p + 2000 * c → (1000 * (N c p * N c p)) * ((c + e) * M (c + e) p) ≤ (1000 * (N (c + e) p * N (c + e) p)) * (c * M c p)
    across h =
        let n : N (c + e) p ≡ N c p + e * p + 2000 * e = omega arith in
        rw n (steeper c e p (N c p) (M c p) (M (c + e) p) (n_m c ok p) (omega arith) (omega (arith, ok.most, high.most)))

-- with the rain fixed, a higher curve number never gives less
pub depth_higher : (c d p : ℕ) → CurveOk c → CurveOk d → c ≤ d → depth c p ≤ depth d p
depth_higher c d p ok high l =
    let e : c + (d - c) ≡ d = omega arith in
    subst (λ (z : ℕ). depth c p ≤ depth z p) e
    (raised c (d - c) p ok (record { least = omega (arith, high.least); most = omega (arith, high.most) }))
