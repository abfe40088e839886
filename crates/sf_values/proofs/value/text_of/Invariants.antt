use Rattle.std.proofs.Common.{◌≡◌, length, ◌++◌, flat_map, false, string_bytes}
use denote.Text.{Utf8}
use denote.Shadow.{shadow}
use Rattle.sf_values.specs.Values.{quoted_byte, undoubled}
use Rattle.sf_values.proofs.value.text_of.Given as goal

-- what is read so far and what is left are the whole, and are read as the whole is
abbrev pub invariant-loop-plain : goal.invariant-loop-plain
invariant-loop-plain l = record {
  text : shadow (Utf8 l.rest);
  written : flat_map quoted_byte (string_bytes l.value) ++ l.rest ≡ l.initial.rest;
  read : string_bytes l.value ++ undoubled false l.rest ≡ undoubled false l.initial.rest;
}

abbrev pub decreases-loop-plain : goal.decreases-loop-plain
decreases-loop-plain l = length l.rest
