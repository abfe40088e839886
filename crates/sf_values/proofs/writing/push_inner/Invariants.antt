use Rattle.std.proofs.Common.{◌≡◌, ◌++◌, flat_map, string_bytes, length}
use denote.Text.{Utf8}
use denote.Shadow.{shadow}
use Rattle.std.specs.List.{prefix_len}
use Rattle.sf_values.specs.Values.{is_plain_in, written_byte}
use Rattle.sf_values.proofs.writing.push_inner.Given as goal

-- what was pushed and what is to be pushed of the rest are the whole
abbrev pub invariant-loop-end : goal.invariant-loop-end
invariant-loop-end l = record {
  text : shadow (Utf8 l.rest);
  plain : l.end ≡ prefix_len (is_plain_in l.form) l.rest;
  whole : string_bytes l.text ++ flat_map (written_byte l.form) l.rest ≡ string_bytes l.fn.text ++ flat_map (written_byte l.form) l.value;
}

abbrev pub decreases-loop-end : goal.decreases-loop-end
decreases-loop-end l = length l.rest
