-- The sheet rules hold, by computation. Assumes nothing.
use mathlib.Core.Path.{refl}
use Rattle.laws.specs.Scan.{scan}
use Rattle.laws.specs.Flat.{flat_good}
use Rattle.travel.specs.TravelTime.{rule_good, sheet_limit, place_within, segment_within, segments_good}
use Rattle.worked.specs.Rules.{Rules}

pub rules : Rules
unfolding scan flat_good rule_good sheet_limit place_within segment_within segments_good
rules =
    record {
      no_rule = refl;
      first_rule = refl;
      second_rule = refl;
      third_rule = refl;
      greatest_rule = refl;
      one_passes = refl;
      one_refuses = refl;
      two_passes = refl;
      two_refuses = refl;
    }
