-- What a number of small units is in a column of large ones, byte for byte. Assumes nothing.
use Rattle.std.specs.Prelude.{ℕ, ◌/◌, ◌%◌, ◌^◌, ◌-◌, List, ◌++◌, false, [], codes, decimal}
use Rattle.std.specs.Fmt.{padded_integral, format_spec}

-- a number below 10 to the power of n, in n digits, as {:0n} writes it
abbrev pub in_digits : ℕ → ℕ → List ℕ
in_digits n k = padded_integral (format_spec 32 0 4 n (2 ^ 64 - 1)) false [] (decimal k)

-- n digits behind the point
abbrev pub places : ℕ → ℕ → List ℕ
places n x = decimal (x / 10 ^ n) ++ (codes "." ++ in_digits n (x % 10 ^ n))

abbrev pub tenths : ℕ → List ℕ
tenths x = decimal (x / 10) ++ (codes "." ++ decimal (x % 10))

abbrev pub hundredths : ℕ → List ℕ
hundredths x = places 2 x

abbrev pub thousandths : ℕ → List ℕ
thousandths x = places 3 x

abbrev pub ten_thousandths : ℕ → List ℕ
ten_thousandths x = places 4 x

-- hours, minutes and seconds
abbrev pub clock : ℕ → List ℕ
clock x = decimal (x / 60 / 60) ++ (codes ":" ++ (in_digits 2 (x / 60 % 60) ++ (codes ":" ++ in_digits 2 (x % 60))))
