-- Document 01, 'What a study is made of': what is lent, as two things. Code keeps its slices.
use Rattle.std.specs.Prelude.{List, [], ℕ, length}
use Rattle.subarea.specs.declared.Setup.{Setup}

-- the numbers of a run, the rain, the subareas and the pond
pub record Site : Type 0 where
  pub setup : Setup
  pub rain : List ℕ
  pub subareas : List ℕ
  pub pond : List ℕ

-- a site with another list of subareas
abbrev pub with_subareas : Site → List ℕ → Site
with_subareas x u = record { setup = x.setup; rain = x.rain; subareas = u; pond = x.pond }

-- a site by another sheet rule
abbrev pub with_rule : Site → ℕ → Site
with_rule x rule =
    record { setup = record { step = x.setup.step; first = x.setup.first; rule = rule }; rain = x.rain; subareas = x.subareas; pond = x.pond }

-- the three row lists
pub record Rows : Type 0 where
  pub inflow : List ℕ
  pub outflow : List ℕ
  pub storage : List ℕ

-- rows asked, m
abbrev pub asked : Rows → ℕ
asked l = length l.inflow

-- of a `requires`, and in a proof: from what the lists hold
abbrev pub site_now : Setup → List ℕ → List ℕ → List ℕ → Site
site_now g rain s p = record { setup = g; rain = rain; subareas = s; pond = p }

abbrev pub basin_now : Setup → List ℕ → List ℕ → Site
basin_now g rain s = record { setup = g; rain = rain; subareas = s; pond = [] }

abbrev pub rows_now : List ℕ → List ℕ → List ℕ → Rows
rows_now v o t = record { inflow = v; outflow = o; storage = t }

-- of an `ensures`: the site, a site with no pond, the rows as found, from what the lists hold at entry, and the rows as left, from
-- what they hold at exit
abbrev pub site : Setup → List ℕ → List ℕ → List ℕ → Site
site g rain s p = site_now g rain s p

abbrev pub basin : Setup → List ℕ → List ℕ → Site
basin g rain s = basin_now g rain s

abbrev pub found : List ℕ → List ℕ → List ℕ → Rows
found v o t = rows_now v o t

abbrev pub left : List ℕ → List ℕ → List ℕ → Rows
left v o t = rows_now v o t
