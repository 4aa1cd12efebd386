-- A list of records with one put in a place, flattened, is the flat list altered there. Assumes nothing.
use mathlib.Core.Path.{◌≡◌, refl, sym, ap, ◌∙◌}
use mathlib.Core.List.{List, [], ◌∷◌, ◌++◌, append_assoc}
use Prim.Native.Nat.{ℕ, zero, suc, ◌+◌, ◌-◌, ◌*◌}
use native.Mathlib.Omega.{arith}
use lib.ListN.{length, take, drop}
use lib.Seq.{take-nil, drop-nil, take-append-add, drop-append-add}
use Rattle.subarea.specs.Records.{width, records_in}
use Rattle.alter.specs.Altering.{altered}
use Rattle.host.specs.declared.records.Subarea.{Subarea}
use Rattle.host.specs.Flattened.{record_of, flat_of, put_in}
use Rattle.host.proofs.Handing.{record_length, flat_length}

flat_append : (ss ts : List Subarea) → flat_of (ss ++ ts) ≡ flat_of ss ++ flat_of ts
unfolding flat_of
flat_append [] ts = refl
flat_append (s ∷ ss) ts = ap (λ (l : List ℕ). record_of s ++ l) (flat_append ss ts) ∙ sym (append_assoc (record_of s) (flat_of ss) (flat_of ts))

-- j records and one more are so many numbers
one_more : (j : ℕ) (s : Subarea) → width * suc j ≡ length (record_of s) + width * j
one_more j s = omega (arith, record_length s)

flat_take : (j : ℕ) (ss : List Subarea) → flat_of (take j ss) ≡ take (width * j) (flat_of ss)
unfolding flat_of
flat_take zero ss = refl
flat_take (suc j) [] = sym (take-nil (width * suc j))
flat_take (suc j) (s ∷ ss) =
    ap (λ (l : List ℕ). record_of s ++ l) (flat_take j ss)
    ∙ sym (ap (λ (n : ℕ). take n (record_of s ++ flat_of ss)) (one_more j s) ∙ take-append-add (record_of s) (flat_of ss) (width * j))

flat_drop : (j : ℕ) (ss : List Subarea) → flat_of (drop j ss) ≡ drop (width * j) (flat_of ss)
unfolding flat_of
flat_drop zero ss = refl
flat_drop (suc j) [] = sym (drop-nil (width * suc j))
flat_drop (suc j) (s ∷ ss) =
    flat_drop j ss ∙ sym (ap (λ (n : ℕ). drop n (record_of s ++ flat_of ss)) (one_more j s) ∙ drop-append-add (record_of s) (flat_of ss) (width * j))

-- record n put in place k, a listed one or not
pub put_in_flat : (ss : List Subarea) (k : ℕ) (n : Subarea) → altered (flat_of ss) k (record_of n) ≡ flat_of (put_in ss k n)
unfolding flat_of
put_in_flat ss k n =
    sym
    (flat_append (take (k - 1) ss) (n ∷ drop k ss)
    ∙ ap (λ (l : List ℕ). l ++ (record_of n ++ flat_of (drop k ss))) (flat_take (k - 1) ss)
    ∙ ap (λ (l : List ℕ). take (width * (k - 1)) (flat_of ss) ++ (record_of n ++ l)) (flat_drop k ss))

-- as many records as the list has
pub records_in_flat : (ss : List Subarea) → records_in (flat_of ss) ≡ length ss
records_in_flat ss = omega (arith, flat_length ss)
