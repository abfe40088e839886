use Rattle.std.proofs.Common.{◌∙◌, subst, sym}
use Rattle.sf_geometry.specs.declared.geometry.Geometry.{Geometry}
use Rattle.sf_known.specs.declared.known.Known.{Known}
use Rattle.sf_known.specs.Known.{Holds}
use Rattle.sf_relate.specs.Matrices.{matrix_of}
use Rattle.sf_linework.proofs.TurnedLaws.{turned}
use Rattle.sf_query.proofs.given.Given.known_prepared.Goals as goal

pub known_by-known-requires : goal.known_by-known-requires
known_by-known-requires c =
    subst (λ (g : Geometry). Holds c.transposed-turned.result (matrix_of c.self.inside.valid.now g)) (sym c.new.ensures.same ∙ sym c.prepared-prepared.ensures)
    (subst (λ (g : Geometry). Holds c.transposed-turned.result (matrix_of g c.args.geometry.now)) (sym c.self.view_is)
    (subst (λ (k : Known). Holds k (matrix_of c.args.self.now c.args.geometry.now)) (sym c.transposed-turned.ensures) (turned c.args.self.now c.args.geometry.now c.args.from.now c.requires)))

pub returns-then-eq : goal.returns-then-eq
returns-then-eq c =
    let a = c.args.geometry.now in
    let b = c.args.self.now in
    let k = c.known_by-known.result in
    subst (λ (k : Known). Holds k (matrix_of a b)) (sym c.transposed.ensures)
    (turned a b k
    (subst (λ (g : Geometry). Holds k (matrix_of g a)) c.self.view_is
    (subst (λ (g : Geometry). Holds k (matrix_of c.self.inside.valid.now g)) (c.prepared-prepared.ensures ∙ c.new.ensures.same) c.known_by-known.ensures)))

pub known_by-requires : goal.known_by-requires
known_by-requires c =
    subst (λ (g : Geometry). Holds c.args.from.now (matrix_of c.args.geometry.now g)) (sym c.self.view_is ∙ sym c.new-2.ensures.same ∙ sym c.prepared-prepared-2.ensures) c.requires

pub returns : goal.returns
returns c =
    subst (λ (g : Geometry). Holds c.known_by.result (matrix_of c.args.geometry.now g)) (c.prepared-prepared-2.ensures ∙ c.new-2.ensures.same ∙ c.self.view_is) c.known_by.ensures
