use Rattle.std.proofs.Common.{◌≡◌, ap, sym, ◌∙◌, ℕ, ◌+◌, ◌≤◌, length, replicate, rules, arith}
use Rattle.sf_cells.proofs.CallerLemmas.{counts_none}
use Rattle.sf_slabs.proofs.sweep.Sweep.new.Goals as goal

exactly : (a n m : ℕ) → a ≡ n → m ≡ n → m ≤ a
exactly a n m e f = omega arith

together : (p n v m : ℕ) → m ≡ n + v → p ≡ n → p + v ≤ m
together p n v m e f = omega arith

pub returns-clause-ready : goal.returns-clause-ready
returns-clause-ready c ps e gs f =
    record {
      order_room = exactly _ c.args.pieces (length ps) (search rules) e;
      contacts_room = exactly _ c.args.pieces (length ps) (search rules) e;
      cut_room =
          record {
            parts = together (length ps) c.args.pieces c.args.vertices _ (search rules) e;
            order = exactly _ c.args.pieces (length ps) (search rules) e;
            contacts = exactly _ c.args.pieces (length ps) (search rules) e;
            segment = exactly _ c.args.pieces (length ps) (search rules) e;
          };
      none_on = c.in_ok-from_elem.ensures.items_if_clones_equal (λ y h. h) ∙ ap (λ n. replicate n 0) (sym f) ∙ sym (counts_none gs);
      none_above = c.in_ok-from_elem-2.ensures.items_if_clones_equal (λ y h. h) ∙ ap (λ n. replicate n 0) (sym f) ∙ sym (counts_none gs);
    }
