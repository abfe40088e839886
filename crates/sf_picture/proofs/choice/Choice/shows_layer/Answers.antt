use Rattle.std.proofs.Common.{◌≡◌, ◌∙◌, ◌||◌, ◌==◌, Bool, length, map, false, ap, sym, string_bytes}
use Rattle.std.specs.Prelude.{bytes_eq}
use Rattle.std.specs.List.{list_any}
use Rattle.sf_picture.specs.Pictures.{Choice, shows_layer}
use Rattle.sf_picture.proofs.Choices.{none-or-any}
use Rattle.sf_picture.proofs.choice.Choice.shows_layer.Goals as goal

pub returns-else-is_empty : goal.returns-else-is_empty
returns-else-is_empty c =
    let names = c.as_slice-names.result.now in
    let some : (length names == 0) ≡ false = sym c.is_empty.ensures ∙ c.if-is_empty.false in
    c.is_among.ensures
    ∙ sym (ap (λ (b : Bool). b || list_any (λ known. bytes_eq (string_bytes known) c.args.name.now) names) some)
    ∙ sym (none-or-any (λ known. bytes_eq known c.args.name.now) string_bytes names)
    ∙ ap (λ given. length (map string_bytes given) == 0 || list_any (λ known. bytes_eq known c.args.name.now) (map string_bytes given)) c.as_slice-names.ensures.value
    ∙ ap (λ (choice : Choice). shows_layer choice c.args.name.now) c.self.view_is
