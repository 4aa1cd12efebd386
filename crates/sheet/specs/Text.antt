-- What a line of the sheet is, byte for byte. Assumes nothing.
use Rattle.std.specs.Prelude.{ℕ, ◌^◌, ◌-◌, ◌+◌, ◌*◌, ◌/◌, List, ◌++◌, codes, if◌then◌else◌, nat_lt, slice_index, flat_map, map, length}
use Rattle.std.specs.Fmt.{styled_text, styled_decimal, format_spec}
use Rattle.std.specs.Char.{encode_utf8}
use Rattle.std.specs.List.{range_with_len}
use Rattle.subarea.specs.declared.Setup.{Setup}
use Rattle.pond.specs.PondRows.{last_sum, stage_at}
use Rattle.reading.specs.Columns.{tenths, hundredths, thousandths, ten_thousandths, clock}
use Rattle.sheet.specs.declared.results.Row.{Row}
use Rattle.sheet.specs.declared.site.SubareaLine.{SubareaLine}
use Rattle.sheet.specs.declared.site.PatchLine.{PatchLine}
use Rattle.sheet.specs.declared.site.SegmentLine.{SegmentLine}
use Rattle.sheet.specs.declared.site.Flow.{Flow}
use Rattle.sheet.specs.declared.site.Flow.TheVariants.{Unpaved, Paved, Given, Sheet, Channel}

-- at the right of a column that is n wide
abbrev pub right : ℕ → List ℕ → List ℕ
right n text = styled_text (format_spec 32 3 0 n (2 ^ 64 - 1)) text

abbrev pub right_number : ℕ → ℕ → List ℕ
right_number n k = styled_decimal (format_spec 32 3 0 n (2 ^ 64 - 1)) k

-- a row's line of numbers: its number, seconds, inflow, outflow, storage and stage
abbrev pub row_text_of : ℕ → ℕ → ℕ → ℕ → ℕ → ℕ → List ℕ
row_text_of number seconds inflow outflow storage stage =
    right_number 16 number ++ (codes " " ++ (right 11 (clock seconds) ++ (codes " " ++ (right 15 (thousandths inflow)
    ++ (codes " " ++ (right 13 (thousandths outflow) ++ (codes " " ++ (right 16 (thousandths storage)
    ++ (codes " " ++ right 10 (thousandths stage))))))))))

abbrev pub row_text : Row → List ℕ
row_text r = row_text_of r.number r.clock.0 r.inflow.0 r.outflow.0 r.storage.0 r.stage.0

-- the stage at storage s and outflow o: 0 above the pond's last X, where no study that was not refused comes
abbrev pub stage_of : ℕ → List ℕ → ℕ → ℕ → ℕ
stage_of h p o s =
    if nat_lt (last_sum h p) s then 0 else (if nat_lt ((last_sum h p - s) / h) o then 0 else stage_at h p (s + h * o))

-- the line of row k, from 0
abbrev pub line_of : Setup → List ℕ → List ℕ → List ℕ → List ℕ → ℕ → List ℕ
line_of setup p inflow outflow storage k =
    row_text_of (setup.first + k) ((k + 1) * setup.step) (slice_index inflow k) (slice_index outflow k) (slice_index storage k)
    (stage_of (setup.step / 2) p (slice_index outflow k) (slice_index storage k))

-- the line of row k with its end
abbrev pub ended_line : Setup → List ℕ → List ℕ → List ℕ → List ℕ → ℕ → List ℕ
ended_line setup p inflow outflow storage k = line_of setup p inflow outflow storage k ++ codes "\n"

-- the first n rows' lines
abbrev pub first_lines : Setup → List ℕ → List ℕ → List ℕ → List ℕ → ℕ → List ℕ
first_lines setup p inflow outflow storage n =
    flat_map (λ line. line) (map (ended_line setup p inflow outflow storage) (range_with_len 0 n))

abbrev pub lines_of : Setup → List ℕ → List ℕ → List ℕ → List ℕ → List ℕ
lines_of setup p inflow outflow storage = first_lines setup p inflow outflow storage (length inflow)

-- a subarea's figures
abbrev pub subarea_text : SubareaLine → List ℕ
subarea_text x =
    right_number 7 x.number ++ (codes " " ++ (right 11 (hundredths x.area.0) ++ (codes " " ++ (right 13 (tenths x.curve_number.0)
    ++ (codes " " ++ (right_number 7 x.time ++ (codes " " ++ (right_number 7 x.peak ++ (codes " " ++ right_number 8 x.weights)))))))))

abbrev pub patch_text : PatchLine → List ℕ
patch_text x =
    right_number 7 x.of ++ (codes " " ++ (right_number 6 x.cover ++ (codes "     " ++ (encode_utf8 x.group
    ++ (codes " " ++ (right 11 (hundredths x.area.0) ++ (codes " " ++ right 13 (tenths x.curve_number.0))))))))

abbrev pub kind_text : Flow → List ℕ
kind_text (Unpaved _) = codes "unpaved"
kind_text (Paved _) = codes "paved"
kind_text (Given _) = codes "given"
kind_text (Sheet _ _ _) = codes "sheet"
kind_text (Channel _ _ _) = codes "channel"

-- the columns from n to velocity
abbrev pub flow_text : Flow → List ℕ
flow_text (Unpaved slope) = codes "                       " ++ (right 13 (ten_thousandths slope.0) ++ codes "                ")
flow_text (Paved slope) = codes "                       " ++ (right 13 (ten_thousandths slope.0) ++ codes "                ")
flow_text (Given velocity) = codes "                                          " ++ right 10 (hundredths velocity.0)
flow_text (Sheet n rain slope) =
    codes " " ++ (right 6 (thousandths n.0) ++ (codes " " ++ (right 7 (thousandths rain.0)
    ++ (codes "        " ++ (right 13 (ten_thousandths slope.0) ++ codes "                ")))))
flow_text (Channel n radius slope) =
    codes " " ++ (right 6 (thousandths n.0) ++ (codes "         " ++ (right 6 (hundredths radius.0)
    ++ (codes " " ++ (right 13 (ten_thousandths slope.0) ++ codes "                ")))))

abbrev pub segment_text : SegmentLine → List ℕ
segment_text x =
    right_number 7 x.of ++ (codes " " ++ (right 9 (kind_text x.flow) ++ (codes " " ++ (right_number 11 x.length
    ++ (flow_text x.flow ++ (codes " " ++ right_number 8 x.time))))))
