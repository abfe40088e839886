use Rattle.std.proofs.Common.{inl}
use Rattle.std.specs.Prelude.{string_bytes}
use Rattle.sf_console.proofs.CheckLaws.{place-told}
use Rattle.sf_console.proofs.checking.refused.Goals as goal

pub returns : goal.returns
returns c =
    inl (place-told c.args.geometry.now c.args.refusal c.in-Invalid.fault c.in_ok-place.place (string_bytes c.in_ok-fault_line.field-0) c.in-Invalid.is c.in_ok-place.ensures c.in_ok-fault_line.ensures)
