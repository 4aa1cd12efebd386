-- The clone of a list of numbers, or of lists of numbers, is that list.
use Rattle.std.proofs.Common.{refl}
use Rattle.std.specs.List.{each_same}
use Rattle.std.proofs.lemmas.List.Elements.{same_from_all_zip}
use Rattle.reading.proofs.study.StudyClone.clone.Goals as goal

pub returns : goal.returns
returns c = record {
  cases = (
    refl,
    refl,
    each_same _ _ c.in_ok-clone.ensures.cases,
    same_from_all_zip _ _ _ c.in_ok-clone-2.ensures.cases (λ x y same. each_same x y same.whole),
    same_from_all_zip _ _ _ c.in_ok-clone-3.ensures.cases (λ x y same. each_same x y same.whole),
  );
}
