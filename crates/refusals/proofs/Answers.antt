-- Each promise of this crate allows one answer. Assumes nothing.
use denote.RattleType.{RattleType}
use mir.Syntax.{Dict}
use denote.Param.Laws.{Laws}
use Rattle.laws.proofs.OneAnswer.{OneAnswer, same}
use Rattle.refusals.specs.declared.Numbered.{Ghosts as Numbered}
use Rattle.refusals.proofs.Refusal.none.Kinds as none-kinds
use Rattle.refusals.proofs.Refusal.none.Reads as none_reads
use Rattle.refusals.proofs.Rule.number.Kinds as number-kinds
use Rattle.refusals.proofs.Rule.number.Reads as number-reads
use Rattle.refusals.proofs.RuleNumbered.number.Kinds as rule-numbered-kinds
use Rattle.refusals.proofs.RuleNumbered.number.Reads as rule-numbered-reads
use Rattle.refusals.proofs.U64Numbered.number.Kinds as u64-numbered-kinds
use Rattle.refusals.proofs.U64Numbered.number.Reads as u64-numbered-reads
use Rattle.refusals.proofs.told.Kinds as told-kinds
use Rattle.refusals.proofs.told.Reads as told-reads
use Rattle.refusals.proofs.Refusal.charge.Kinds as charge-kinds
use Rattle.refusals.proofs.Refusal.charge.Reads as charge-reads
use Rattle.refusals.proofs.Refusal.first_of.Kinds as first-of-kinds
use Rattle.refusals.proofs.Refusal.first_of.Reads as first-of-reads
use Rattle.refusals.proofs.Refusal.first_at.Kinds as first-at-kinds
use Rattle.refusals.proofs.Refusal.first_at.Reads as first-at-reads
use Rattle.refusals.proofs.check.Kinds as check-kinds
use Rattle.refusals.proofs.check.Reads as check-reads
use Rattle.refusals.proofs.refused_at.Kinds as refused-at-kinds
use Rattle.refusals.proofs.refused_at.Reads as refused-at-reads
use Rattle.refusals.proofs.refused_at_entry.Kinds as refused-at-entry-kinds
use Rattle.refusals.proofs.refused_at_entry.Reads as refused-at-entry-reads
use Rattle.refusals.proofs.stopped.Kinds as stopped-kinds
use Rattle.refusals.proofs.stopped.Reads as stopped-reads
use Rattle.refusals.proofs.Refusal.or.Kinds as or-kinds
use Rattle.refusals.proofs.Refusal.or.Reads as or-reads

pub none_one : OneAnswer none-kinds.ps none-kinds.r none_reads.Post
none_one κs a x y s t p q = same p q

pub check_one : (E : RattleType) (d : Laws E) (w : Dict) → OneAnswer (check-kinds.ps E d) (check-kinds.r E d) (check-reads.Post E d w)
check_one E d w κs a x y s t p q = same p q

pub refused_at_one : (R : RattleType) (d : Laws R) (w : Dict) → OneAnswer (refused-at-kinds.ps R d) (refused-at-kinds.r R d) (refused-at-reads.Post R d w)
refused_at_one R d w κs a x y s t p q = same p q

pub refused_at_entry_one : (R : RattleType) (d : Laws R) (w : Dict) → OneAnswer (refused-at-entry-kinds.ps R d) (refused-at-entry-kinds.r R d) (refused-at-entry-reads.Post R d w)
refused_at_entry_one R d w κs a x y s t p q = same p q

pub stopped_one : OneAnswer stopped-kinds.ps stopped-kinds.r stopped-reads.Post
stopped_one κs a x y s t p q = same p q

pub or_one : (R : RattleType) (d : Laws R) (w : Dict) → OneAnswer (or-kinds.ps R d) (or-kinds.r R d) (or-reads.Post R d w)
or_one R d w κs a x y s t p q = same p q

pub number_one : OneAnswer number-kinds.ps number-kinds.r number-reads.Post
number_one κs a x y s t p q = same p q

pub rule_numbered_one : OneAnswer rule-numbered-kinds.ps rule-numbered-kinds.r rule-numbered-reads.Post
rule_numbered_one κs a x y s t p q = same p q

pub u64_numbered_one : OneAnswer u64-numbered-kinds.ps u64-numbered-kinds.r u64-numbered-reads.Post
u64_numbered_one κs a x y s t p q = same p q

pub told_one : (R : RattleType) (d : Laws R) (g : Numbered R.Denot) (w : Dict) → OneAnswer (told-kinds.ps R d) (told-kinds.r R d) (told-reads.Post R d g w)
told_one R d g w κs a x y s t p q = same p q

pub charge_one : (R : RattleType) (d : Laws R) (w : Dict) → OneAnswer (charge-kinds.ps R d) (charge-kinds.r R d) (charge-reads.Post R d w)
charge_one R d w κs a x y s t p q = same p q

pub first_of_one : (R : RattleType) (d : Laws R) (w : Dict) → OneAnswer (first-of-kinds.ps R d) (first-of-kinds.r R d) (first-of-reads.Post R d w)
first_of_one R d w κs a x y s t p q = same p q

pub first_at_one : (R : RattleType) (d : Laws R) (w : Dict) → OneAnswer (first-at-kinds.ps R d) (first-at-kinds.r R d) (first-at-reads.Post R d w)
first_at_one R d w κs a x y s t p q = same p q
