use Rattle.std.proofs.Common.{List, ℕ, ◌≡◌, ◌∙◌, ◌++◌, ◌∷◌, [], ap, append_assoc, option_copied, string_bytes}
use Rattle.sf_layers.proofs.Outcomes.{OnOk-map}
use Rattle.sf_console.specs.Requests.{member_text}
use Rattle.sf_console.proofs.group_lines.push_member.Goals as goal

-- of any texts: those of a member, among which is one longer than a line, are not computed here
joined : (old put rest new : List ℕ) → put ≡ old ++ 13 ∷ [] → new ≡ put ++ rest → new ≡ old ++ 13 ∷ rest
joined old put rest new first is = is ∙ ap (λ t. t ++ rest) first ∙ append_assoc old (13 ∷ []) rest

pub returns : goal.returns
returns c =
    let first : string_bytes c.push_str.new.self ≡ string_bytes c.args.text.now ++ 13 ∷ [] = c.in_ok-push_str.ensures.bytes in
    OnOk-map c.push_line.result
    (joined (string_bytes c.args.text.now) (string_bytes c.push_str.new.self) (member_text (option_copied c.args.line)) _ first)
    c.push_line.ensures
