-- The rule of `-`, for every crate: it stops at 0. Beside each definition that subtracts stands the law that makes it exact, or that it has a case of its own for 0, or that it stops there on purpose.
-- Document 01, 'What a study is made of': its limits, each under one name. Units: rows, seconds, thousandths of an inch, hundredths of an acre, thousandths of a cubic foot.
use Rattle.std.specs.Prelude.{ℕ}

-- rows asked
abbrev pub most_rows : ℕ
most_rows = 2000

-- the step D
abbrev pub least_step : ℕ
least_step = 60

abbrev pub most_step : ℕ
most_step = 3600

-- the last row number
abbrev pub last_number : ℕ
last_number = 9007199254740991

-- a rain entry
abbrev pub most_rain : ℕ
most_rain = 30000

-- the rise from one rain entry to the next (Q-1)
abbrev pub most_rise : ℕ
most_rise = 4000

-- subareas
abbrev pub most_subareas : ℕ
most_subareas = 16

-- the area of a patch, and all areas together
abbrev pub most_area : ℕ
most_area = 200000

-- Tc
abbrev pub most_time : ℕ
most_time = 36000

-- weights of a subarea
abbrev pub most_weights : ℕ
most_weights = 512

-- an inflow row
abbrev pub most_inflow : ℕ
most_inflow = 217800000000
