-- docs/SCOPE.md, 'Altering one subarea': the rows that then stand, and what is told of them.
-- Letters as in alter's definitions.
use Rattle.std.specs.Prelude.{List, ℕ, ℤ, pos, ◌-ℤ◌, Option}
use Rattle.curve.specs.declared.Classes.{Classes}
use Rattle.rows.specs.Figures.{figures_of}
use Rattle.rows.specs.declared.RowFigures.{RowFigures}
use Rattle.checks.specs.Site.{Rows}
use Rattle.study.specs.Study.{figures_with}
use Rattle.alter.specs.Altering.{first_changed, changed_row, outflows_from, storages_from}
use Rattle.rewrite.specs.declared.Edited.{Edited}

-- the rows then standing: the new inflow rows, and the pond routed from the first changed row on
abbrev pub rerouted : ℕ → List ℕ → Rows → List ℕ → Rows
rerouted h p l ws =
    let a = first_changed l.inflow ws in
    record { inflow = ws; outflow = outflows_from h p l.outflow l.storage ws a; storage = storages_from h p l.outflow l.storage ws a }

-- the figures of rows
abbrev pub figures_in : ℕ → List ℕ → Rows → RowFigures
figures_in h p l = figures_of h p l.inflow l.outflow l.storage

-- new less old, with its sign
abbrev pub change : ℕ → ℕ → ℤ
change new old = pos new -ℤ pos old

-- what is told of new figures f, with class areas c, and old figures o
abbrev pub told : Classes → RowFigures → RowFigures → Option ℕ → Edited
told c f o row =
    record {
      figures = figures_with c f;
      changed = row;
      peak = change f.kept.peak o.kept.peak;
      released = change f.kept.released o.kept.released;
    }

-- of rows l that became rows n: the figures then standing, the first changed row, and the changes
unfoldable pub edited_of : ℕ → Classes → List ℕ → Rows → Rows → Edited
edited_of h c p l n = told c (figures_in h p n) (figures_in h p l) (changed_row l.inflow n.inflow)
