-- docs/SCOPE.md, 'Altering one subarea': the altered list, the new inflow rows, the first changed row, the rows then standing; and the order of an edit's refusals up to 13.
-- Letters here and in edit: x the site and l the rows lent, as found; s a list of subareas, k a place in it and r the fresh record; h half the step and p the pond; vs, os and ss inflow, outflow and storage rows, ws the new inflow rows.
use Rattle.std.specs.Prelude.{Bool, List, [], ◌∷◌, ◌++◌, ℕ, ◌+◌, ◌-◌, ◌*◌, length, take, drop, eqb, ltb, Option, None, Some}
use Rattle.laws.specs.Pick.{pick}
use Rattle.laws.specs.Scan.{scan}
use Rattle.laws.specs.Within.{within}
use Rattle.rows.specs.Routing.{outflows, storages, state_before}
use Rattle.rows.specs.Figures.{at}
use Rattle.refusals.specs.declared.Rule.TheVariants.{Place}
use Rattle.checks.specs.Site.{Site, Rows}
use Rattle.subarea.specs.Records.{half_of, width, records_in, record_at}
use Rattle.refusals.specs.Refusals.{Line, unless}
use Rattle.checks.specs.Order.{run_lines, list_lines, pond_lines}
use Rattle.inflow.specs.Inflow.{part_of}

-- the list with record r in place k, from 1 (15 keeps k - 1 exact: `place_ready`)
abbrev pub altered : List ℕ → ℕ → List ℕ → List ℕ
altered s k r = take (width * (k - 1)) s ++ (r ++ drop (width * k) s)

-- the record that stood there (15 keeps k - 1 exact: `place_ready`)
abbrev pub old_record : List ℕ → ℕ → List ℕ
old_record s k = record_at s (k - 1)

-- the site with that list
abbrev pub altered_site : Site → ℕ → List ℕ → Site
altered_site x k r = record { setup = x.setup; rain = x.rain; subareas = altered x.subareas k r; pond = x.pond }

-- the old record's part of a row, and the fresh one's
abbrev pub old_part : Site → ℕ → ℕ → ℕ
old_part x k = part_of x.setup x.rain (old_record x.subareas k)

abbrev pub fresh_part : Site → List ℕ → ℕ → ℕ
fresh_part x r = part_of x.setup x.rain r

-- rows from row k on: the old record's part f of each is taken away (exact where 16 passes: `swap_fit` of edit), the new one's g added
unfoldable pub swapped : (ℕ → ℕ) → (ℕ → ℕ) → ℕ → List ℕ → List ℕ
swapped f g k [] = []
swapped f g k (v ∷ vs) = (v - f k + g k) ∷ swapped f g (k + 1) vs

abbrev pub new_inflow : Site → ℕ → List ℕ → List ℕ → List ℕ
new_inflow x k r vs = swapped (old_part x k) (fresh_part x r) 1 vs

abbrev pub new_inflow_of : Site → Rows → ℕ → List ℕ → List ℕ
new_inflow_of x l k r = new_inflow x k r l.inflow

-- the first row, from 0, whose inflow volume differs, or their number
unfoldable pub first_changed : List ℕ → List ℕ → ℕ
first_changed vs ws = scan (λ i. eqb (at vs i) (at ws i)) (length vs) 0

-- the first changed row, from 1, if one changed
abbrev pub changed_at : ℕ → ℕ → Option ℕ
changed_at a m = pick (ltb a m) (Some (a + 1)) None

abbrev pub changed_row : List ℕ → List ℕ → Option ℕ
changed_row vs ws = changed_at (first_changed vs ws) (length vs)

-- the outflow and storage rows then standing: as they were before row a (from 0), and routed from there on
abbrev pub outflows_from : ℕ → List ℕ → List ℕ → List ℕ → List ℕ → ℕ → List ℕ
outflows_from h p os ss ws a = take a os ++ outflows h p (state_before os ss a) (drop a ws)

abbrev pub storages_from : ℕ → List ℕ → List ℕ → List ℕ → List ℕ → ℕ → List ℕ
storages_from h p os ss ws a = take a ss ++ storages h p (state_before os ss a) (drop a ws)

-- 15: the place is in the list, from 1
unfoldable pub place_good : List ℕ → ℕ → Bool
place_good s k = within 1 k (records_in s)

-- docs/SCOPE.md's order of an edit up to 13: 1 to 5 with 20 after 2 and 19 after 3, 15, 6 to 11 on the list as it stands, 6 to 11 on the altered list, 12, 13 (one sheet rule, the setup's, for 7 on both lists)
abbrev pub edit_check_lines : Site → Rows → ℕ → List ℕ → List Line
edit_check_lines x l k r =
    run_lines x l
    ++ (unless Place (place_good x.subareas k) ∷ [])
    ++ list_lines x.setup x.subareas
    ++ list_lines x.setup (altered x.subareas k r)
    ++ pond_lines (half_of x.setup) x.pond
