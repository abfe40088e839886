use Rattle.std.proofs.Common.{◌≡◌, ◌+◌, ◌<◌, ◌≤◌, ap, sym, subst, ◌∙◌, arith, [], drop, None, length, rules}
use Rattle.sf_strips.specs.Parts.{levels_of}
use Rattle.sf_strips.proofs.AloneLaws.{alone_count-le}
use Rattle.sf_strips.proofs.CutLaws.{IsLined, LinedOff, empty, few-drop, lined-alone, lined-nothing, lined-run, lined-turn, lined-whole, run-le, run-some}
use Rattle.sf_strips.proofs.cut.Cut.slab.Goals as goal
use Rattle.sf_strips.proofs.cut.Cut.slab.Goals.{else-alone-gt0, then-alone-gt0}

pub loop-edges-init : goal.loop-edges-init
loop-edges-init c =
    record {
      cut = lined-nothing _ _ _ (ap levels_of c.clear.ensures.items);
      few = search rules;
      room = search rules;
      capacity = search rules;
      order = search rules;
      contacts = search rules;
      segment = search rules;
    }

pub split_at-requires : goal.split_at-requires
split_at-requires c =
    let es = c.loop-edges.edges.now in
    let cs = c.loop-edges.contacts.now in
    elim c.if-alone-gt0.branch [
      | then-alone-gt0 w ↦ subst (λ n. n ≤ length es) (sym (w.count-is ∙ c.alone_len-alone.ensures)) (alone_count-le None es cs [])
      | else-alone-gt0 w ↦ subst (λ n. n ≤ length es) (sym (w.count-is ∙ w.run_len-bundle.ensures)) (run-le None es cs c.loop-edges.invariant.few)
    ]

cut_further : (c : goal.After-skip-contacts) →
    LinedOff c.args.edges.now c.split_at.result.1.now c.args.contacts.now c.skip-contacts.result.now (levels_of c.if-alone-gt0.self.parts.items)
cut_further c =
    let es = c.loop-edges.edges.now in
    let cs = c.loop-edges.contacts.now in
    elim c.if-alone-gt0.branch [
      | then-alone-gt0 w ↦
          lined-turn c.alone_len-alone.result _ es _ _ cs _ _ _ _ c.loop-edges.invariant.cut
          (lined-alone c.alone_len-alone.result es cs c.alone_len-alone.ensures)
          (c.split_at.ensures.back ∙ ap (λ n. drop n es) w.count-is) (c.skip-contacts.ensures ∙ ap (λ n. drop n cs) w.count-is)
          (ap (λ s. s.parts.items) w.self-is ∙ w.push_reserved.ensures.items)
      | else-alone-gt0 w ↦
          lined-turn w.run_len-bundle.result _ es _ _ cs _ _ _ _ c.loop-edges.invariant.cut
          (lined-run w.run_len-bundle.result es cs (search rules) c.loop-edges.invariant.few w.run_len-bundle.ensures)
          (c.split_at.ensures.back ∙ ap (λ n. drop n es) w.count-is) (c.skip-contacts.ensures ∙ ap (λ n. drop n cs) w.count-is)
          (ap (λ s. s.parts.items) w.self-is ∙ w.push_reserved-else-alone-gt0.ensures.items)
    ]

some_taken : (c : goal.After-skip-contacts) → 0 < c.if-alone-gt0.count
some_taken c =
    elim c.if-alone-gt0.branch [
      | then-alone-gt0 w ↦ search rules
      | else-alone-gt0 w ↦ subst (λ n. 0 < n) (sym (w.count-is ∙ w.run_len-bundle.ensures)) (run-some None c.loop-edges.edges.now c.loop-edges.contacts.now (search rules))
    ]

one_part : (c : goal.After-skip-contacts) → c.if-alone-gt0.self.parts.len ≡ c.loop-edges.self.parts.len + 1
one_part c =
    elim c.if-alone-gt0.branch [
      | then-alone-gt0 w ↦ ap (λ s. s.parts.len) w.self-is ∙ w.push_reserved.ensures.len
      | else-alone-gt0 w ↦ ap (λ s. s.parts.len) w.self-is ∙ w.push_reserved-else-alone-gt0.ensures.len
    ]

pub loop-edges-preserved : goal.loop-edges-preserved
loop-edges-preserved c =
    record {
      cut = cut_further c;
      few = few-drop c.if-alone-gt0.count _ _ _ _ c.skip-contacts.ensures c.split_at.ensures.back c.loop-edges.invariant.few;
      room = omega (arith, one_part c, some_taken c, c.split_at.ensures.back_len, c.loop-edges.invariant.room);
      capacity = search rules;
      order = search rules;
      contacts = search rules;
      segment = search rules;
    }

whole : (c : goal.After-loop-edges) → IsLined c.args.edges.now c.args.contacts.now (levels_of c.loop-edges.self.parts.items)
whole c = lined-whole _ _ _ _ _ (empty c.loop-edges.edges.now (search rules)) c.loop-edges.invariant.cut

pub returns-clause-tops : goal.returns-clause-tops
returns-clause-tops c = (whole c).tops

pub returns-clause-onward : goal.returns-clause-onward
returns-clause-onward c = (whole c).onward

pub returns-clause-all : goal.returns-clause-all
returns-clause-all c = (whole c).all
