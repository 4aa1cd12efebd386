-- docs/SCOPE.md, 'Travel time' (Q-4): a sheet rule as a value.
use Rattle.std.specs.Prelude.{◌≡◌, ℕ, Result, Ok, Err, eqb}
use Rattle.laws.specs.Pick.{pick}
use Rattle.travel.specs.declared.rule.SheetRule.{SheetRule}
use Rattle.travel.specs.declared.rule.SheetRule.TheVariants.{Tr55, WinTr55}
use Rattle.travel.specs.declared.rule.UnknownRule.{UnknownRule}

abbrev pub named : ℕ → Result SheetRule UnknownRule
named rule = pick (eqb rule 1) (Ok Tr55) (pick (eqb rule 2) (Ok WinTr55) (Err (record { rule = rule })))

abbrev pub Names : ℕ → Result SheetRule UnknownRule → Type 0
Names rule r = r ≡ named rule

abbrev pub limit_of : SheetRule → ℕ
limit_of Tr55 = 300
limit_of WinTr55 = 100
