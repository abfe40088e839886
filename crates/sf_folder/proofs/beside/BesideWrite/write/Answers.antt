use Rattle.std.proofs.Common.{rules, ◌≡◌, ◌+◌, length, subst, sym}
use Rattle.std.specs.Io.KnownBytes.{Appends}
use Rattle.sf_folder.specs.Besides.{Continues, written_behind}
use Rattle.sf_folder.proofs.WritingLemmas.{tries-writing-known, tries-keeps-known, does-writing-known, does-appends-known, err-keeps, take-whole}
use Rattle.sf_folder.proofs.beside.BesideWrite.write.Goals as goal

pub invariant_of-self : goal.invariant_of-self
invariant_of-self g c = record {
  same = c.args.self.now.same;
  continues = tries-writing-known g.B.Before.known (g.F.Folder.calls c.args.self.now.folder.now) (g.F.Folder.calls c.write.new.self) c.args.self.now.hasher c.args.self.now.size c.args.buf.now
      c.in_err-write.ensures.tried
      (subst (λ f. ∥ Continues g.B.Before.known (g.F.Folder.calls c.args.self.now.folder.now) c.args.self.now.hasher c.args.self.now.size f ∥₁) c.if-self.false c.args.self.now.continues);
}

pub returns-in_err-write-clause-bytes : goal.returns-in_err-write-clause-bytes
returns-in_err-write-clause-bytes g c =
    err-keeps (written_behind g.B.Before.known (g.F.Folder.calls c.args.self.now.folder.now) c.args.self.now.size)
    (written_behind g.B.Before.known (g.F.Folder.calls c.write.new.self) c.args.self.now.size) c.from_residual.result c.args.buf.now c.from_residual.ensures.0
    (tries-keeps-known g.B.Before.known (g.F.Folder.calls c.args.self.now.folder.now) (g.F.Folder.calls c.write.new.self) c.args.self.now.hasher c.args.self.now.size c.args.buf.now
    c.in_err-write.ensures.tried
    (subst (λ f. ∥ Continues g.B.Before.known (g.F.Folder.calls c.args.self.now.folder.now) c.args.self.now.hasher c.args.self.now.size f ∥₁) c.if-self.false c.args.self.now.continues))

pub invariant_of-self-2 : goal.invariant_of-self-2
invariant_of-self-2 g c =
    let size : c.in-Some.size ≡ c.args.self.now.size + length c.args.buf.now = search rules in
    record {
      same = c.args.self.now.same;
      continues = does-writing-known g.B.Before.known (g.F.Folder.calls c.args.self.now.folder.now) (g.F.Folder.calls c.write.new.self) c.args.self.now.hasher c.update.new.self c.args.self.now.size c.in-Some.size
          c.args.buf.now c.in_ok-write.ensures.done size c.update.ensures
          (subst (λ f. ∥ Continues g.B.Before.known (g.F.Folder.calls c.args.self.now.folder.now) c.args.self.now.hasher c.args.self.now.size f ∥₁) c.if-self.false c.args.self.now.continues);
    }

pub returns-clause-bytes : goal.returns-clause-bytes
returns-clause-bytes g c =
    let size : c.in-Some.size ≡ c.args.self.now.size + length c.args.buf.now = search rules in
    subst (Appends (written_behind g.B.Before.known (g.F.Folder.calls c.args.self.now.folder.now) c.args.self.now.size)
    (written_behind g.B.Before.known (g.F.Folder.calls c.write.new.self) c.in-Some.size)) (sym (take-whole c.args.buf.now))
    (does-appends-known g.B.Before.known (g.F.Folder.calls c.args.self.now.folder.now) (g.F.Folder.calls c.write.new.self) c.args.self.now.hasher c.args.self.now.size c.in-Some.size c.args.buf.now
    c.in_ok-write.ensures.done size
    (subst (λ f. ∥ Continues g.B.Before.known (g.F.Folder.calls c.args.self.now.folder.now) c.args.self.now.hasher c.args.self.now.size f ∥₁) c.if-self.false c.args.self.now.continues))
