use Rattle.std.proofs.Common.{◌≡◌, ℕ, nat_eq, drop, length, sym, subst, arith, Bor}
use Rattle.std.specs.Prelude.{Decides, List, option_map}
use Rattle.std.proofs.lemmas.Grind.{common_steps}
use Rattle.std.proofs.lemmas.Slice.Eq.{starts_is}
use Rattle.sf_folder.specs.Openings.{HasHead}
use Rattle.sf_folder.proofs.choosing.has_head.Goals as goal

byte : (a b : ℕ) → Decides (nat_eq a b) (a ≡ b)
byte a b = (λ h. grind (arith, common_steps), λ h. grind (arith, common_steps))

pub returns-in-Some : goal.returns-in-Some
returns-in-Some c =
    let parts = starts_is byte c.in-Some.bytes.now c.args.head.now c.starts_with.result c.starts_with.ensures.value in (
      λ h. subst (λ o. HasHead c.args.head.now (option_map {T = Bor (List ℕ)} {U = List ℕ} (λ bytes. bytes.now) o)) (sym c.in-Some.is)
          (drop (length c.args.head.now) c.in-Some.bytes.now, parts.0 h),
      λ h. let g = subst (λ o. HasHead c.args.head.now (option_map {T = Bor (List ℕ)} {U = List ℕ} (λ bytes. bytes.now) o)) c.in-Some.is h in parts.1 g.0 g.1,
    )
