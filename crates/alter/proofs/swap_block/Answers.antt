-- `alter::swap_block` meets its contract. Assumes nothing.
use mathlib.Core.Path.{◌≡◌, sym, ap, ◌∙◌, subst}
use mathlib.Core.List.{List}
use Prim.Native.Nat.{ℕ, ◌+◌, ◌-◌}
use native.Mathlib.Omega.{arith}
use lib.ListN.{length}
use Rattle.laws.specs.Filled.{Filled}
use Rattle.laws.specs.Listed.{rows_from, plus}
use Rattle.laws.proofs.Listed.{rows_length, zeros_all}
use Rattle.rows.specs.Figures.{at}
use Rattle.parts.specs.Needs.{part_by}
use Rattle.alter.specs.Needs.{PartsOk}
use Rattle.alter.proofs.Swapping.{zeros_room, away_ok, swap_filled}
use Rattle.alter.proofs.swap_block.Goals as goal
use Rattle.alter.proofs.swap_block.Goals.{After-add_block, After-fill, Start}

-- the parts of the old record and of the fresh one
abbrev old : Start → ℕ → ℕ
old s = part_by s.args.step s.args.rain.now s.args.old

abbrev fresh : Start → ℕ → ℕ
fresh s = part_by s.args.step s.args.rain.now s.args.fresh

-- what is filled is rows of zeros, as many as there were
zeros : (c : After-fill) → c.fill.new.self ≡ rows_from (λ (k : ℕ). 0) 1 (length c.args.rows.now)
zeros c = c.fill.ensures.after (λ y e. e) ∙ zeros_all 1 (length c.args.rows.now)

cleared : (c : After-fill) → length c.fill.new.self ≡ length c.args.rows.now
cleared c = ap length (zeros c) ∙ rows_length (λ (k : ℕ). 0) 1 (length c.args.rows.now)

-- the function's entry, from where the old record's parts are added
abbrev start : After-add_block → Start
start c = (goal.at.After-add_block c).Start

-- then the rows are the old record's parts
parted : (c : After-add_block) → c.add_block.new.rows ≡ plus (old (start c)) ((start c).args.from + 1) (rows_from (λ (k : ℕ). 0) 1 (length (start c).args.rows.now))
parted c = c.add_block.ensures ∙ ap (plus (old (start c)) ((start c).args.from + 1)) (zeros (goal.at.After-add_block c).After-fill)

-- which can be taken away
away : (c : After-add_block) → PartsOk (start c).args.inflow.now c.add_block.new.rows
away c =
    let s = start c in
    subst (λ (l : List ℕ). PartsOk s.args.inflow.now l) (sym (parted c)) (away_ok (old s) s.args.from (length s.args.rows.now) s.args.inflow.now s.requires.numbers_ok.1.1.1 s.requires.rows_len.0)

pub add_block-requires : goal.add_block-requires
add_block-requires c =
    let long = cleared (goal.at.add_block-requires c).After-fill in (
      c.requires.numbers_ok.0,
      (
        c.requires.numbers_ok.1.1.0,
        (
          rw (zeros (goal.at.add_block-requires c).After-fill) (zeros_room (length c.args.rows.now) (omega (arith, c.requires.rows_len))),
          (omega (arith, long, c.requires.rows_len), (omega (arith, long, c.requires.rows_len), omega (arith, long, c.requires.rows_len))),
        ),
      ),
    )

pub take_away-requires : goal.take_away-requires
take_away-requires c = away (goal.at.take_away-requires c).After-add_block

pub returns : goal.returns
returns c =
    let vs = c.args.inflow.now in
    let f = c.take_away.ensures in
    let rows = c.take_away.new.rows in
    c.add_block-2.ensures
    ∙ swap_filled (old (goal.at.returns c).Start) (fresh (goal.at.returns c).Start) (c.args.from + 1) (length c.args.rows.now) vs rows c.requires.rows_len.0 f.rows_len
    (subst (λ (l : List ℕ). Filled (λ (i : ℕ). at vs i - at l i) (length vs) rows) (parted (goal.at.returns c).After-add_block) f.filled)
