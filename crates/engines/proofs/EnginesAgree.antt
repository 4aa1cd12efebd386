-- Q-6: on every input, good or refused, both engines answer the same and leave the same rows. Assumes nothing.
use mathlib.Core.Path.{◌≡◌, refl, sym, ap, ◌∙◌}
use mathlib.Core.Bool.{true}
use mathlib.Core.List.{List}
use Prim.Native.Nat.{ℕ}
use borrow.Author.Tests.{eq-eqb}
use Rattle.laws.proofs.OneAnswer.{SameAnswersAnd}
use Rattle.laws.proofs.Tests.{both_true}
use Rattle.laws.proofs.Sums.{sum_same}
use Rattle.laws.proofs.Listed.{rows_same}
use Rattle.std.specs.Prelude.{Ok, Err, is_none}
use Rattle.refusals.specs.Refusals.{Line, told, after}
use Rattle.subarea.specs.declared.Setup.{Setup}
use Rattle.subarea.specs.Records.{records_in, record_at}
use Rattle.hydrograph.specs.Needs.{RainOk}
use Rattle.checks.specs.Site.{Site, Rows, asked}
use Rattle.checks.specs.Needs.{ListOk}
use Rattle.checks.proofs.Ready.{inflow_ready}
use Rattle.inflow.specs.Inflow.{part_of, inflow_at, inflow_rows, inflow_refusal, inflow_of, inflow_after}
use Rattle.textbook.specs.Textbook.{part_laid_of, textbook_at, textbook_rows, textbook_refusal, textbook_of, textbook_after}
use Rattle.textbook.proofs.Rows.{record_agrees}
use Rattle.inflow.proofs.run.Kinds as inflow-kinds
use Rattle.inflow.proofs.run.Reads as inflow-reads
use Rattle.textbook.proofs.run.Reads as textbook-reads
use Rattle.engines.specs.Agreeing.{EnginesAgree}
use Rattle.engines.specs.Compared.{verdict_of, agrees}
use Rattle.engines.proofs.Differing.{differing_none}

-- the rows of a list within its limits
pub rows_agree : (g : Setup) (rain s : List ℕ) (m : ℕ) → RainOk rain → ListOk g s → textbook_rows g rain s m ≡ inflow_rows g rain s m
rows_agree g rain s m raining ok =
    rows_same (textbook_at g rain s) (inflow_at g rain s) 1 m
    (λ k. sum_same (λ i. part_laid_of g rain (record_at s i) k) (λ i. part_of g rain (record_at s i) k) (records_in s) (λ i l. record_agrees g rain (record_at s i) k raining (ok.each i l)))

pub engines_agree : (x : Site) (l : Rows) → EnginesAgree x l
unfolding inflow_refusal textbook_refusal
engines_agree x l =
    record {
      answers = refl;
      rows = go (inflow_refusal x l) refl;
    }
  where
    go : (v : Line) → inflow_refusal x l ≡ v → after v (textbook_of x l) l.inflow ≡ after v (inflow_of x l) l.inflow
    go (Ok u) e =
        let ok = inflow_ready x l e in
        rows_agree x.setup x.rain x.subareas (asked l) ok.run.raining ok.list
    go (Err f) e = refl

-- so the promises of both allow, on the same arguments, one answer and one inflow list afterwards
pub runs_agree : SameAnswersAnd inflow-kinds.ps inflow-kinds.r {L = List ℕ} (λ κs s. s.1.1.1.0.now) inflow-reads.Post textbook-reads.Post
runs_agree κs args a b s t p q =
    let same = engines_agree _ _ in
    (p.0 ∙ sym same.answers ∙ sym q.0, p.1 ∙ sym same.rows ∙ sym q.1)

-- and the verdict on both, lent the same rows, is that they agree
pub always_same : (x : Site) (l : Rows) → agrees (verdict_of x l l) ≡ true
unfolding agrees verdict_of
always_same x l =
    let same = engines_agree x l in
    both_true (eq-eqb (told (inflow_refusal x l)).0 (told (textbook_refusal x l)).0 (sym (ap (λ v. (told v).0) same.answers)))
    (both_true (eq-eqb (told (inflow_refusal x l)).1 (told (textbook_refusal x l)).1 (sym (ap (λ v. (told v).1) same.answers)))
    (ap is_none (differing_none (inflow_after x l) (textbook_after x l) (sym same.rows))))
