-- A column swept over part by part: what was cut off, what was handed out for it, and what both say once nothing is left.
use Rattle.std.proofs.Common.{◌≡◌, refl, ap, sym, ◌∙◌, subst, ℕ, ◌+◌, arith, Bool, true, List, [], ◌∷◌, ◌++◌, None, Option, length, map}
use Rattle.std.specs.List.{AllByRecursion}
use Rattle.std.proofs.lemmas.List.{append-nil, append_assoc, length-append, map-append}
use Rattle.sf_grid.specs.Fraction.{Fraction}
use Rattle.sf_strips.specs.declared.active.Active.{Active}
use Rattle.sf_strips.specs.declared.contact.Contact.{Contact}
use Rattle.sf_strips.specs.declared.level.Level.{Level}
use Rattle.sf_strips.specs.declared.vertex.Vertex.{Vertex}
use Rattle.sf_strips.specs.Fronts.{pieces_of}
use Rattle.sf_strips.specs.Levels.{AreOnward, AreTops, TakeAll}
use Rattle.sf_strips.specs.Parts.{is_over}
use Rattle.sf_strips.proofs.CutLaws.{CutOff, IsWhole, cut-nothing, cut-whole}
use Rattle.sf_cells.specs.Groups.{Item, counts}
use Rattle.sf_cells.specs.Hands.{plus, stops}
use Rattle.sf_classes.specs.Classes.{HaveItemsFor, Represent}
use Rattle.sf_sweep.specs.Passing.{ArePassing, IsLastApart, passing_levels}
use Rattle.sf_sweep.specs.Tables.{bundles_of, contacts_of}
use Rattle.sf_sweep.specs.Windows.{AreHanded, IsClosed, IsPartHanded, Part, all_coming, all_going, all_stops, bundle_stop, column_items, past, slab_items}
use Rattle.sf_sweep.proofs.JoinLaws.{IsWindow, window-cut}
use Rattle.sf_sweep.proofs.PassLaws.{AreOneSloped, passing-cut, passing-stops}
use Rattle.sf_sweep.proofs.StopLaws.{all_pieces, bundles-join, bundles-pieces, window-stops}
use Rattle.sf_sweep.proofs.WindowLaws.{column_further}
pub use Rattle.sf_sweep.specs.Within.{Swept}

-- ---- levels cut off behind others
cut-behind : (column : Option Fraction) (es es' es'' : List Active) (cs cs' cs'' : List Contact) (vs vs' vs'' : List Vertex) (order order' : List Active) (levels levels' : List Level) →
    CutOff column es es' cs cs' vs vs' order levels → CutOff column es' es'' cs' cs'' vs' vs'' order' levels' → CutOff column es es'' cs cs'' vs vs'' (order ++ order') (levels ++ levels')
cut-behind column es es' es'' cs cs' cs'' vs vs' vs'' order order' levels levels' p q =
    record {
      tops = λ ls h. subst (AreTops column es cs vs) (sym (append_assoc levels levels' ls)) (p.tops (levels' ++ ls) (q.tops ls h));
      onward = λ os ls h.
          subst (λ zs. AreOnward es vs zs ((levels ++ levels') ++ ls)) (sym (append_assoc order order' os))
          (subst (AreOnward es vs (order ++ (order' ++ os))) (sym (append_assoc levels levels' ls)) (p.onward (order' ++ os) (levels' ++ ls) (q.onward os ls h)));
      all = λ n ls h.
          subst (λ m. TakeAll (length es) (length vs) m ((levels ++ levels') ++ ls)) (further (length order) (length order') (length (order ++ order')) n (length-append order order'))
          (subst (TakeAll (length es) (length vs) (length order + (length order' + n))) (sym (append_assoc levels levels' ls)) (p.all (length order' + n) (levels' ++ ls) (q.all n ls h)));
    }
  where
    further : (a b c n : ℕ) → c ≡ a + b → a + (b + n) ≡ c + n
    further a b c n h = omega arith

-- ---- parts and a further one
past-append : (groups above : List ℕ) (bs cs : List (List ℕ)) → past groups above (bs ++ cs) ≡ past groups (past groups above bs) cs
past-append groups above [] cs = refl
past-append groups above (b ∷ bs) cs = past-append groups (plus above (counts groups b)) bs cs

stops-append : (ps qs : List Part) → all_stops (ps ++ qs) ≡ all_stops ps ++ all_stops qs
stops-append [] qs = refl
stops-append (p ∷ ps) qs = ap (λ ss. p.stops ++ ss) (stops-append ps qs) ∙ sym (append_assoc p.stops (all_stops ps) (all_stops qs))

coming-append : (ps qs : List Part) → all_coming (ps ++ qs) ≡ all_coming ps ++ all_coming qs
coming-append [] qs = refl
coming-append (p ∷ ps) qs = ap (λ ss. p.coming ++ ss) (coming-append ps qs) ∙ sym (append_assoc p.coming (all_coming ps) (all_coming qs))

pub going-append : (ps qs : List Part) → all_going (ps ++ qs) ≡ all_going ps ++ all_going qs
going-append [] qs = refl
going-append (p ∷ ps) qs = ap (λ ss. p.going ++ ss) (going-append ps qs) ∙ sym (append_assoc p.going (all_going ps) (all_going qs))

-- what was handed out for parts, and then for further ones
pub handed-append : (areal : List Bool) (groups before above : List ℕ) (ps qs : List Part) (more then : List Item) → AreHanded areal groups before above ps more →
    AreHanded areal groups (past groups before (all_coming ps)) (past groups above (all_going ps)) qs then → AreHanded areal groups before above (ps ++ qs) (more ++ then)
handed-append areal groups before above [] qs more then h k = subst (λ z. AreHanded areal groups before above qs (z ++ then)) (sym h) k
handed-append areal groups before above (p ∷ ps) qs more then h k =
    let b = h.1 in (
      h.0,
      record {
        first = b.first;
        later = b.later ++ then;
        here = b.here;
        then = handed-append areal groups (past groups before p.coming) (past groups above p.going) ps qs b.later then b.then
            (subst (λ z. AreHanded areal groups z (past groups (past groups above p.going) (all_going ps)) qs then) (past-append groups before p.coming (all_coming ps))
            (subst (λ z. AreHanded areal groups (past groups before (p.coming ++ all_coming ps)) z qs then) (past-append groups above p.going (all_going ps)) k));
        all = ap (λ z. z ++ then) b.all ∙ append_assoc b.first b.later then;
      },
    )

-- ---- a column, as far as it was swept over
-- a part, from `rest` to `rest'`
pub record IsPart (column : Option Fraction) (rest rest' : List Active) (cs cs' : List Contact) (vs vs' : List Vertex) (onward : List Active) (p : Part) : Type 0 where
  pub levels : List Level
  pub cut : CutOff column rest rest' cs cs' vs vs' onward levels
  pub stops : (os : List Active) (ls : List Level) → stops rest vs (onward ++ os) (levels ++ ls) ≡ p.stops ++ stops rest' vs' os ls
  pub coming : p.coming ++ bundles_of cs' rest' ≡ bundles_of cs rest
  pub going : all_pieces p.going ≡ pieces_of onward

-- before the first part
pub swept-nothing : (areal : List Bool) (groups : List ℕ) (column : Option Fraction) (came : List Active) (cs : List Contact) (vs : List Vertex) → Swept areal groups column came came cs cs vs vs [] [] []
swept-nothing areal groups column came cs vs =
    record {
      levels = [];
      parts = [];
      cut = cut-nothing column came cs vs [] [] refl refl;
      stops = λ os ls. refl;
      coming = refl;
      going = refl;
      bundled = refl;
      handed = refl;
    }

pieces-append : (bs cs : List (List ℕ)) → all_pieces (bs ++ cs) ≡ all_pieces bs ++ all_pieces cs
pieces-append [] cs = refl
pieces-append (b ∷ bs) cs = ap (λ ns. b ++ ns) (pieces-append bs cs) ∙ sym (append_assoc b (all_pieces bs) (all_pieces cs))

-- one part further
pub swept-further : {bs : List (List ℕ)} (areal : List Bool) (groups : List ℕ) (column : Option Fraction) (came rest rest' : List Active) (cs cs' cs'' : List Contact) (vs vs' vs'' : List Vertex) (done onward : List Active)
    (more then : List Item) (p : Part) (s : Swept areal groups column came rest cs cs' vs vs' done bs more) → IsPart column rest rest' cs' cs'' vs' vs'' onward p → IsClosed groups p →
    IsPartHanded areal groups (past groups (counts groups []) (all_coming s.parts)) (past groups (counts groups []) (all_going s.parts)) p then →
    Swept areal groups column came rest' cs cs'' vs vs'' (done ++ onward) (bs ++ p.going) (more ++ then)
swept-further areal groups column came rest rest' cs cs' cs'' vs vs' vs'' done onward more then p s i closed handed =
    record {
      levels = s.levels ++ i.levels;
      parts = s.parts ++ p ∷ [];
      cut = cut-behind column came rest rest' cs cs' cs'' vs vs' vs'' done onward s.levels i.levels s.cut i.cut;
      stops = λ os ls.
          ap (λ z. stops came vs z ((s.levels ++ i.levels) ++ ls)) (append_assoc done onward os)
          ∙ ap (λ z. stops came vs (done ++ (onward ++ os)) z) (append_assoc s.levels i.levels ls)
          ∙ s.stops (onward ++ os) (i.levels ++ ls)
          ∙ ap (λ z. all_stops s.parts ++ z) (i.stops os ls)
          ∙ sym (append_assoc (all_stops s.parts) p.stops (stops rest' vs'' os ls))
          ∙ ap (λ z. z ++ stops rest' vs'' os ls) (ap (λ z. all_stops s.parts ++ z) (sym (append-nil p.stops)) ∙ sym (stops-append s.parts (p ∷ [])));
      coming =
          ap (λ z. z ++ bundles_of cs'' rest') (coming-append s.parts (p ∷ []) ∙ ap (λ z. all_coming s.parts ++ z) (append-nil p.coming))
          ∙ append_assoc (all_coming s.parts) p.coming (bundles_of cs'' rest')
          ∙ ap (λ z. all_coming s.parts ++ z) i.coming
          ∙ s.coming;
      going =
          ap all_pieces (going-append s.parts (p ∷ []) ∙ ap (λ z. all_going s.parts ++ z) (append-nil p.going))
          ∙ pieces-append (all_going s.parts) p.going
          ∙ ap (λ ns. ns ++ all_pieces p.going) s.going
          ∙ ap (λ ns. pieces_of done ++ ns) i.going
          ∙ sym (map-append (λ e. e.piece) done onward);
      bundled = going-append s.parts (p ∷ []) ∙ ap (λ z. all_going s.parts ++ z) (append-nil p.going) ∙ ap (λ z. z ++ p.going) s.bundled;
      handed = handed-append areal groups (counts groups []) (counts groups []) s.parts (p ∷ []) more then s.handed
          (closed, record { first = then; later = []; here = handed; then = refl; all = sym (append-nil then) });
    }

-- edges that pass, between bundles
pub passing-part : (column : Option Fraction) (table : List Contact) (es fs : List Active) (vs : List Vertex) → IsLastApart column table es → IsLastApart None table es → ArePassing column table es →
    AreOneSloped table es → AllByRecursion (λ a. is_over vs a ≡ true) es →
    IsPart column (es ++ fs) fs (contacts_of table (es ++ fs)) (contacts_of table fs) vs vs es
    (record { stops = map bundle_stop (bundles_of (contacts_of table es) es); coming = bundles_of (contacts_of table es) es; going = bundles_of (contacts_of table es) es })
passing-part column table es fs vs last apart passing slopes over =
    record {
      levels = passing_levels table es;
      cut = passing-cut column table es fs vs last passing slopes over;
      stops = λ os ls. passing-stops column table es fs vs os ls;
      coming = sym (bundles-join table es fs apart);
      going = bundles-pieces (contacts_of table es) es;
    }

-- a window
pub window-part : (column : Option Fraction) (table : List Contact) (es fs : List Active) (us vs : List Vertex) (os : List Active) (ls : List Level) (ds : List Contact) → IsWindow column table es fs us vs →
    IsLastApart None table es → IsWhole column es (contacts_of table es) us os ls →
    IsPart column (es ++ fs) fs (contacts_of table (es ++ fs)) (contacts_of table fs) (us ++ vs) vs os
    (record { stops = stops es us os ls; coming = bundles_of (contacts_of table es) es; going = bundles_of ds os })
window-part column table es fs us vs os ls ds w apart whole =
    record {
      levels = ls;
      cut = window-cut column table es fs us vs os ls w whole;
      stops = λ ps ms. window-stops es fs us vs os ps ls ms whole.all;
      coming = sym (bundles-join table es fs apart);
      going = bundles-pieces ds os;
    }

-- ---- once nothing is left
pub record IsColumnSwept (areal : List Bool) (groups : List ℕ) (column : Option Fraction) (came : List Active) (cs : List Contact) (vs : List Vertex) (done : List Active) (bundles : List (List ℕ)) (more : List Item) : Type 0 where
  pub levels : List Level
  pub parts : List Part
  pub whole : IsWhole column came cs vs done levels
  pub stops : stops came vs done levels ≡ all_stops parts
  pub coming : all_coming parts ≡ bundles_of cs came
  pub bundled : all_going parts ≡ bundles
  pub handed : AreHanded areal groups (counts groups []) (counts groups []) parts more

pub swept-whole : {bs : List (List ℕ)} (areal : List Bool) (groups : List ℕ) (column : Option Fraction) (came rest : List Active) (cs cs' : List Contact) (vs vs' : List Vertex) (done : List Active) (more : List Item) →
    rest ≡ [] → vs' ≡ [] → Swept areal groups column came rest cs cs' vs vs' done bs more → IsColumnSwept areal groups column came cs vs done bs more
swept-whole areal groups column came rest cs cs' vs vs' done more e f s =
    record {
      levels = s.levels;
      parts = s.parts;
      whole = cut-whole column came rest cs cs' vs vs' done s.levels e f s.cut;
      stops =
          ap (λ z. stops came vs z s.levels) (sym (append-nil done))
          ∙ ap (stops came vs (done ++ [])) (sym (append-nil s.levels))
          ∙ s.stops [] []
          ∙ append-nil (all_stops s.parts);
      coming = sym (append-nil (all_coming s.parts)) ∙ ap (λ z. all_coming s.parts ++ z) (sym (ap (bundles_of cs') e)) ∙ s.coming;
      bundled = s.bundled;
      handed = s.handed;
    }

-- ---- one column further, where its cells and those of its slab are given
pub represented-further : (areal : List Bool) (groups : List ℕ) (came : List Active) (cs : List Contact) (parts : List Part) (items more done column slab rest all : List Item) →
    all ≡ done ++ (column ++ (slab ++ rest)) → Represent areal items done → HaveItemsFor areal done (slab_items groups (bundles_of cs came)) →
    all_coming parts ≡ bundles_of cs came → column ≡ column_items groups parts → slab ≡ slab_items groups (all_going parts) →
    AreHanded areal groups (counts groups []) (counts groups []) parts more →
    (all ≡ (done ++ (column ++ slab)) ++ rest) × Represent areal (items ++ more) (done ++ (column ++ slab))
represented-further areal groups came cs parts items more done column slab rest all split h last coming c s handed = (
  split ∙ ap (λ z. done ++ z) (sym (append_assoc column slab rest)) ∙ sym (append_assoc done (column ++ slab) rest),
  subst (λ z. Represent areal (items ++ more) (done ++ (z ++ slab))) (sym c)
      (subst (λ z. Represent areal (items ++ more) (done ++ (column_items groups parts ++ z))) (sym s)
      (column_further areal groups parts items more done h (subst (λ bs. HaveItemsFor areal done (slab_items groups bs)) (sym coming) last) handed)),
)
