-- A column cut into its parts, one after another.
use Rattle.std.proofs.Common.{◌≡◌, refl, ap, sym, subst, ◌∙◌, ℕ, ◌+◌, ◌-◌, ◌≤◌, ◌<◌, arith, List, [], ◌∷◌, ◌++◌, take, drop, length, None, Option}
use Rattle.std.specs.List.{AllByRecursion}
use Rattle.std.specs.Ordering.{int_eq}
use Rattle.std.specs.declared.cmp.Ordering.{Ordering}
use Rattle.std.specs.declared.cmp.Ordering.TheVariants.{Equal, Greater, Less}
use Rattle.std.proofs.Math.Seq.{drop-append_seam, take-append_seam}
use Rattle.std.proofs.lemmas.List.{append-nil, append_assoc, length-append, length-drop, length-take-le}
use Rattle.std.proofs.lemmas.List.Sums.{prefix_len-le-length}
use Rattle.sf_grid.specs.Fraction.{Fraction}
use Rattle.sf_grid.specs.Plane.{grid_point}
use Rattle.sf_strips.specs.declared.active.Active.{Active}
use Rattle.sf_strips.specs.declared.contact.Contact.{Contact}
use Rattle.sf_strips.specs.declared.level.Level.{Level}
use Rattle.sf_strips.specs.declared.part.Part.{Part}
use Rattle.sf_strips.specs.declared.part.Part.TheVariants.{Alone, Together}
use Rattle.sf_strips.specs.declared.vertex.Vertex.{Vertex}
use Rattle.sf_strips.specs.Fronts.{touches}
use Rattle.sf_strips.specs.Levels.{AreOnward, AreTops, IsOnward, IsTop, TakeAll, group_length, level_by, run_length, top_level}
use Rattle.sf_strips.specs.Parts.{HasLevel, alone_count, alone_levels, levels_of}
use Rattle.sf_strips.specs.Slanted.{side_of}
use Rattle.sf_strips.proofs.AloneLaws.{alone-all, alone-onward, alone-tops, alone-each, alone_count-le, alone_levels-append, levels_of-append}

-- ---- the highest level takes no more than there is, and something where there is something
-- the first edges that are level are no more than there are
pub run-le : (column : Option Fraction) (es : List Active) (cs : List Contact) → length cs ≤ length es - 1 → run_length column es cs ≤ length es
run-le column [] cs h = omega arith
run-le column (a ∷ es) cs h = let k = prefix_len-le-length (touches column) cs in omega arith

-- and at least one, where there is one
pub run-some : (column : Option Fraction) (es : List Active) (cs : List Contact) → 0 < length es → 0 < run_length column es cs
run-some column [] cs h = absurd (omega arith)
run-some column (a ∷ es) cs h = omega arith

-- the first vertices that are level are no more than there are
group-le : (vs : List Vertex) → group_length vs ≤ length vs
group-le [] = omega arith
group-le (v ∷ vs) = let k = prefix_len-le-length (λ u. int_eq u.at.y v.at.y) vs in omega arith

-- the level takes no more than there is
pub record Fitting (es : List Active) (vs : List Vertex) (l : Level) : Type 0 where
  pub edges : l.edges ≤ length es
  pub vertices : l.vertices ≤ length vs

-- the highest level takes no more than there is
top-fits : (column : Option Fraction) (es : List Active) (cs : List Contact) (vs : List Vertex) → length cs ≤ length es - 1 →
    Fitting es vs (top_level column es cs vs)
top-fits column [] cs vs h = record { edges = omega arith; vertices = group-le vs }
top-fits column (a ∷ es) cs [] h = record { edges = run-le column (a ∷ es) cs h; vertices = omega arith }
top-fits column (a ∷ es) cs (v ∷ vs) h = by_side (side_of a.edge.left a.edge.right (grid_point v.at))
  where
    by_side : (o : Ordering) → Fitting (a ∷ es) (v ∷ vs) (level_by o (run_length column (a ∷ es) cs) (group_length (v ∷ vs)))
    by_side Less = record { edges = run-le column (a ∷ es) cs h; vertices = omega arith }
    by_side Equal = record { edges = run-le column (a ∷ es) cs h; vertices = group-le (v ∷ vs) }
    by_side Greater = record { edges = omega arith; vertices = group-le (v ∷ vs) }

-- a level that is equal to it takes no more than there is
pub top-within : (column : Option Fraction) (es : List Active) (cs : List Contact) (vs : List Vertex) (l : Level) → length cs ≤ length es - 1 →
    l ≡ top_level column es cs vs → Fitting es vs l
top-within column es cs vs l h e = subst (Fitting es vs) (sym e) (top-fits column es cs vs h)

-- the highest level takes something, where there is something
pub top-some : (column : Option Fraction) (es : List Active) (cs : List Contact) (vs : List Vertex) → 0 < length es + length vs →
    0 < (top_level column es cs vs).edges + (top_level column es cs vs).vertices
top-some column [] cs [] h = absurd (omega arith)
top-some column [] cs (v ∷ vs) h = omega arith
top-some column (a ∷ es) cs [] h = omega arith
top-some column (a ∷ es) cs (v ∷ vs) h = by_side (side_of a.edge.left a.edge.right (grid_point v.at))
  where
    by_side : (o : Ordering) →
        0 < (level_by o (run_length column (a ∷ es) cs) (group_length (v ∷ vs))).edges + (level_by o (run_length column (a ∷ es) cs) (group_length (v ∷ vs))).vertices
    by_side Less = omega arith
    by_side Equal = omega arith
    by_side Greater = omega arith

-- ---- what was cut off
-- levels were cut off from the top, and edges go on from them: with whatever levels are left these are the levels of all
pub record CutOff (column : Option Fraction) (es es' : List Active) (cs cs' : List Contact) (vs vs' : List Vertex)
    (order : List Active) (levels : List Level) : Type 0 where
  pub tops : (ls : List Level) → AreTops column es' cs' vs' ls → AreTops column es cs vs (levels ++ ls)
  pub onward : (os : List Active) (ls : List Level) → AreOnward es' vs' os ls → AreOnward es vs (order ++ os) (levels ++ ls)
  pub all : (n : ℕ) (ls : List Level) → TakeAll (length es') (length vs') n ls → TakeAll (length es) (length vs) (length order + n) (levels ++ ls)

-- where nothing was cut off, all is left
pub cut-nothing : (column : Option Fraction) (es : List Active) (cs : List Contact) (vs : List Vertex) (order : List Active) (levels : List Level) →
    order ≡ [] → levels ≡ [] → CutOff column es es cs cs vs vs order levels
cut-nothing column es cs vs order levels e f =
    subst (λ zs. CutOff column es es cs cs vs vs zs levels) (sym e)
    (subst (CutOff column es es cs cs vs vs []) (sym f)
    (record { tops = λ ls h. h; onward = λ os ls h. h; all = λ n ls h. subst (λ m. TakeAll (length es) (length vs) m ls) (nothing_before n) h }))
  where
    nothing_before : (n : ℕ) → n ≡ 0 + n
    nothing_before n = omega arith

-- levels cut off behind others
cut-behind : (column : Option Fraction) (es es' es'' : List Active) (cs cs' cs'' : List Contact) (vs vs' vs'' : List Vertex)
    (order order' : List Active) (levels levels' : List Level) → CutOff column es es' cs cs' vs vs' order levels →
    CutOff column es' es'' cs' cs'' vs' vs'' order' levels' → CutOff column es es'' cs cs'' vs vs'' (order ++ order') (levels ++ levels')
cut-behind column es es' es'' cs cs' cs'' vs vs' vs'' order order' levels levels' p q =
    record {
      tops = λ ls h. subst (AreTops column es cs vs) (sym (append_assoc levels levels' ls)) (p.tops (levels' ++ ls) (q.tops ls h));
      onward = λ os ls h.
          subst (λ zs. AreOnward es vs zs ((levels ++ levels') ++ ls)) (sym (append_assoc order order' os))
          (subst (AreOnward es vs (order ++ (order' ++ os))) (sym (append_assoc levels levels' ls)) (p.onward (order' ++ os) (levels' ++ ls) (q.onward os ls h)));
      all = λ n ls h.
          subst (λ m. TakeAll (length es) (length vs) m ((levels ++ levels') ++ ls)) (further (length order) (length order') (length (order ++ order')) n (length-append order order'))
          (subst (TakeAll (length es) (length vs) (length order + (length order' + n))) (sym (append_assoc levels levels' ls)) (p.all (length order' + n) (levels' ++ ls) (q.all n ls h)));
    }
  where
    further : (a b c n : ℕ) → c ≡ a + b → a + (b + n) ≡ c + n
    further a b c n e = omega arith

-- the first edges, where they stand alone
cut-alone : (column : Option Fraction) (n : ℕ) (es : List Active) (cs : List Contact) (vs : List Vertex) →
    n ≤ alone_count column es cs vs → CutOff column es (drop n es) cs (drop n cs) vs vs (take n es) (alone_levels n [])
cut-alone column n es cs vs h =
    let few : n ≤ length es = omega (arith, alone_count-le column es cs vs) in
    record {
      tops = λ ls k. subst (AreTops column es cs vs) (sym (alone_levels-append n [] ls)) (alone-tops column n es cs vs ls h k);
      onward = λ os ls k. subst (AreOnward es vs (take n es ++ os)) (sym (alone_levels-append n [] ls)) (alone-onward n es vs os ls few k);
      all = λ m ls k.
          subst (TakeAll (length es) (length vs) (length (take n es) + m)) (sym (alone_levels-append n [] ls))
          (subst (λ i. TakeAll (length es) (length vs) (i + m) (alone_levels n ls)) (sym (length-take-le n es few))
          (alone-all n (length es) (length vs) m ls few (subst (λ i. TakeAll i (length vs) m ls) (length-drop n es) k)));
    }

-- the highest level
cut-level : (column : Option Fraction) (es : List Active) (cs : List Contact) (vs : List Vertex) (segment : List Active) (l : Level) →
    IsTop column es cs vs l → l.edges ≤ length es → l.vertices ≤ length vs → l.onward ≡ length segment → IsOnward (take l.edges es) (take l.vertices vs) segment →
    CutOff column es (drop l.edges es) cs (drop l.edges cs) vs (drop l.vertices vs) segment (l ∷ [])
cut-level column es cs vs segment l top i j e goes =
    record {
      tops = λ ls h. (top, h);
      onward = λ os ls h. (
        subst (λ n. IsOnward (take l.edges es) (take l.vertices vs) (take n (segment ++ os))) (sym e)
            (subst (λ bs. IsOnward (take l.edges es) (take l.vertices vs) bs) (sym (take-append_seam segment os)) goes),
        subst (λ n. AreOnward (drop l.edges es) (drop l.vertices vs) (drop n (segment ++ os)) ls) (sym e)
            (subst (λ bs. AreOnward (drop l.edges es) (drop l.vertices vs) bs ls) (sym (drop-append_seam segment os)) h),
      );
      all = λ n ls h. (
        i,
        (
          j,
          (
            omega arith,
            subst (λ m. TakeAll m (length vs - l.vertices) ((length segment + n) - l.onward) ls) (length-drop l.edges es)
                (subst (λ m. TakeAll (length (drop l.edges es)) m ((length segment + n) - l.onward) ls) (length-drop l.vertices vs)
                (subst (λ m. TakeAll (length (drop l.edges es)) (length (drop l.vertices vs)) m ls) (left l.onward (length segment) n e) h)),
          ),
        ),
      );
    }
  where
    left : (a b n : ℕ) → a ≡ b → n ≡ (b + n) - a
    left a b n e = omega arith

-- ---- a turn of the loop
-- parts behind others, with the levels that they stand for
parts_behind : (column : Option Fraction) (all es es' : List Active) (all_cs cs cs' : List Contact) (all_vs vs vs' : List Vertex)
    (order order' segment : List Active) (parts parts' : List Part) (part : Part) → CutOff column all es all_cs cs all_vs vs order (levels_of parts) →
    CutOff column es es' cs cs' vs vs' segment (levels_of (part ∷ [])) → order' ≡ order ++ segment → parts' ≡ parts ++ part ∷ [] →
    CutOff column all es' all_cs cs' all_vs vs' order' (levels_of parts')
parts_behind column all es es' all_cs cs cs' all_vs vs vs' order order' segment parts parts' part p q e f =
    subst (λ zs. CutOff column all es' all_cs cs' all_vs vs' zs (levels_of parts')) (sym e)
    (subst (λ zs. CutOff column all es' all_cs cs' all_vs vs' (order ++ segment) zs) (sym (ap levels_of f ∙ levels_of-append parts (part ∷ [])))
    (cut-behind column all es es' all_cs cs cs' all_vs vs vs' order segment (levels_of parts) (levels_of (part ∷ [])) p q))

-- a turn that takes the edges that stand alone
pub turn-alone : (column : Option Fraction) (n : ℕ) (all es es' run : List Active) (all_cs cs cs' : List Contact) (all_vs vs : List Vertex)
    (order order' : List Active) (parts parts' : List Part) → n ≡ alone_count column es cs vs → run ≡ take n es → length run ≡ n → es' ≡ drop n es → cs' ≡ drop n cs →
    order' ≡ order ++ run → parts' ≡ parts ++ Alone (length run) ∷ [] →
    CutOff column all es all_cs cs all_vs vs order (levels_of parts) → CutOff column all es' all_cs cs' all_vs vs order' (levels_of parts')
turn-alone column n all es es' run all_cs cs cs' all_vs vs order order' parts parts' count run_is run_len edges contacts order_is parts_is h =
    parts_behind column all es es' all_cs cs cs' all_vs vs vs order order' run parts parts' (Alone (length run)) h
    (subst (λ m. CutOff column es es' cs cs' vs vs run (alone_levels m [])) (sym run_len)
    (subst (λ zs. CutOff column es es' cs cs' vs vs zs (alone_levels n [])) (sym run_is)
    (subst (λ zs. CutOff column es zs cs cs' vs vs (take n es) (alone_levels n [])) (sym edges)
    (subst (λ zs. CutOff column es (drop n es) cs zs vs vs (take n es) (alone_levels n [])) (sym contacts)
    (cut-alone column n es cs vs (omega arith))))))
    order_is parts_is

-- a turn that takes the highest level
pub record Turn (column : Option Fraction) (es es' : List Active) (cs cs' : List Contact) (vs vs' : List Vertex)
    (order order' : List Active) (parts parts' : List Part) (top : Level) (run : List Active) (group : List Vertex) : Type 0 where
  pub top_is : top ≡ top_level column es cs vs
  pub some : 0 < length es + length vs
  pub few : length cs ≤ length es - 1
  pub run_is : run ≡ take top.edges es
  pub run_len : length run ≡ top.edges
  pub edges : es' ≡ drop top.edges es
  pub contacts : cs' ≡ drop top.edges cs
  pub group_is : group ≡ take top.vertices vs
  pub group_len : length group ≡ top.vertices
  pub vertices : vs' ≡ drop top.vertices vs
  pub pushed : HasLevel run group parts parts' order order'

-- a level by its three numbers
abbrev pushed_level : ℕ → ℕ → ℕ → Level
pushed_level e v o = record { edges = e; vertices = v; onward = o }

-- such a turn cuts off one level more
pub turn-level : (column : Option Fraction) (all es es' : List Active) (all_cs cs cs' : List Contact) (all_vs vs vs' : List Vertex)
    (order order' : List Active) (parts parts' : List Part) (top : Level) (run : List Active) (group : List Vertex) →
    Turn column es es' cs cs' vs vs' order order' parts parts' top run group →
    CutOff column all es all_cs cs all_vs vs order (levels_of parts) → CutOff column all es' all_cs cs' all_vs vs' order' (levels_of parts')
turn-level column all es es' all_cs cs cs' all_vs vs vs' order order' parts parts' top run group t h =
    let segment = t.pushed.segment in
    let fits = top-within column es cs vs top t.few t.top_is in
    let l = pushed_level top.edges top.vertices (length segment) in
    parts_behind column all es es' all_cs cs cs' all_vs vs vs' order order' segment parts parts' (Together l) h
    (subst (λ zs. CutOff column es zs cs cs' vs vs' segment (l ∷ [])) (sym t.edges)
    (subst (λ zs. CutOff column es (drop top.edges es) cs zs vs vs' segment (l ∷ [])) (sym t.contacts)
    (subst (λ zs. CutOff column es (drop top.edges es) cs (drop top.edges cs) vs zs segment (l ∷ [])) (sym t.vertices)
    (cut-level column es cs vs segment l
    (record {
      some = subst (λ m. 0 < m.edges + m.vertices) (sym t.top_is) (top-some column es cs vs t.some);
      edges = ap (λ m. m.edges) t.top_is;
      vertices = ap (λ m. m.vertices) t.top_is;
    })
    fits.edges fits.vertices refl
    (subst (λ zs. IsOnward zs (take top.vertices vs) segment) t.run_is
    (subst (λ zs. IsOnward run zs segment) t.group_is t.pushed.onward))))))
    t.pushed.order_behind
    (t.pushed.behind
    ∙ ap (λ n. parts ++ Together (pushed_level n (length group) (length segment)) ∷ []) t.run_len
    ∙ ap (λ n. parts ++ Together (pushed_level top.edges n (length segment)) ∷ []) t.group_len)

-- where nothing is left, the levels that were cut off are all
pub record IsWhole (column : Option Fraction) (es : List Active) (cs : List Contact) (vs : List Vertex) (order : List Active) (levels : List Level) : Type 0 where
  pub tops : AreTops column es cs vs levels
  pub onward : AreOnward es vs order levels
  pub all : TakeAll (length es) (length vs) (length order) levels

-- the levels that were cut off are the levels of the column
pub cut-whole : (column : Option Fraction) (es es' : List Active) (cs cs' : List Contact) (vs vs' : List Vertex) (order : List Active) (levels : List Level) →
    es' ≡ [] → vs' ≡ [] → CutOff column es es' cs cs' vs vs' order levels → IsWhole column es cs vs order levels
cut-whole column es es' cs cs' vs vs' order levels e f h =
    record {
      tops = subst (AreTops column es cs vs) (append-nil levels) (h.tops [] (e, f));
      onward =
          subst (λ zs. AreOnward es vs zs levels) (append-nil order)
          (subst (AreOnward es vs (order ++ [])) (append-nil levels) (h.onward [] [] refl));
      all =
          subst (λ n. TakeAll (length es) (length vs) n levels) (nothing_more (length order))
          (subst (TakeAll (length es) (length vs) (length order + 0)) (append-nil levels) (h.all 0 [] (ap length e, (ap length f, refl))));
    }
  where
    nothing_more : (n : ℕ) → n + 0 ≡ n
    nothing_more n = omega arith

-- ---- a slab
-- of a level all edges go on
abbrev pub AllGoOn : List Level → Type 0
AllGoOn ls = AllByRecursion (λ l. l.onward ≡ l.edges) ls

-- of a slab levels were cut off from the top: with whatever levels are left these are the levels of all
pub record LinedOff (es es' : List Active) (cs cs' : List Contact) (levels : List Level) : Type 0 where
  pub tops : (ls : List Level) → AreTops None es' cs' [] ls → AreTops None es cs [] (levels ++ ls)
  pub onward : (ls : List Level) → AllGoOn ls → AllGoOn (levels ++ ls)
  pub all : (ls : List Level) → TakeAll (length es') 0 (length es') ls → TakeAll (length es) 0 (length es) (levels ++ ls)

-- where nothing was cut off, all is left
pub lined-nothing : (es : List Active) (cs : List Contact) (levels : List Level) → levels ≡ [] → LinedOff es es cs cs levels
lined-nothing es cs levels e =
    subst (LinedOff es es cs cs) (sym e) (record { tops = λ ls h. h; onward = λ ls h. h; all = λ ls h. h })

-- the first edges, where they stand alone
pub lined-alone : (n : ℕ) (es : List Active) (cs : List Contact) → n ≡ alone_count None es cs [] →
    LinedOff es (drop n es) cs (drop n cs) (levels_of (Alone n ∷ []))
lined-alone n es cs h =
    let few : n ≤ length es = omega (arith, alone_count-le None es cs []) in
    record {
      tops = λ ls k. subst (AreTops None es cs []) (sym (alone_levels-append n [] ls)) (alone-tops None n es cs [] ls (omega arith) k);
      onward = λ ls k. subst AllGoOn (sym (alone_levels-append n [] ls)) (alone-each (λ l. l.onward ≡ l.edges) n ls refl k);
      all = λ ls k.
          subst (TakeAll (length es) 0 (length es)) (sym (alone_levels-append n [] ls))
          (subst (λ m. TakeAll (length es) 0 m (alone_levels n ls)) (with_them n (length es) few)
          (alone-all n (length es) 0 (length es - n) ls few
          (subst (λ m. TakeAll m 0 m ls) (length-drop n es) k)));
    }
  where
    with_them : (n e : ℕ) → n ≤ e → n + (e - n) ≡ e
    with_them n e h = omega arith

-- the first edges, where they lie on one line
pub lined-run : (n : ℕ) (es : List Active) (cs : List Contact) → 0 < length es → length cs ≤ length es - 1 → n ≡ run_length None es cs →
    LinedOff es (drop n es) cs (drop n cs) (levels_of (Together (pushed_level n 0 n) ∷ []))
lined-run n [] cs l h e = absurd (omega arith)
lined-run n (a ∷ es) cs l h e =
    let few : n ≤ length (a ∷ es) = omega (arith, run-le None (a ∷ es) cs h) in
    record {
      tops = λ ls k. (record { some = omega arith; edges = e; vertices = refl }, k);
      onward = λ ls k. (refl, k);
      all = λ ls k. (few, (omega arith, (few, subst (λ m. TakeAll m 0 m ls) (length-drop n (a ∷ es)) k)));
    }

-- one more part of a slab
pub lined-turn : (n : ℕ) (all es es' : List Active) (all_cs cs cs' : List Contact) (parts parts' : List Part) (part : Part) → LinedOff all es all_cs cs (levels_of parts) →
    LinedOff es (drop n es) cs (drop n cs) (levels_of (part ∷ [])) → es' ≡ drop n es → cs' ≡ drop n cs → parts' ≡ parts ++ part ∷ [] →
    LinedOff all es' all_cs cs' (levels_of parts')
lined-turn n all es es' all_cs cs cs' parts parts' part p q e f g =
    subst (λ zs. LinedOff all zs all_cs cs' (levels_of parts')) (sym e)
    (subst (λ zs. LinedOff all (drop n es) all_cs zs (levels_of parts')) (sym f)
    (subst (LinedOff all (drop n es) all_cs (drop n cs)) (sym (ap levels_of g ∙ levels_of-append parts (part ∷ [])))
    (record {
      tops = λ ls h. subst (AreTops None all all_cs []) (sym (append_assoc (levels_of parts) (levels_of (part ∷ [])) ls)) (p.tops (levels_of (part ∷ []) ++ ls) (q.tops ls h));
      onward = λ ls h. subst AllGoOn (sym (append_assoc (levels_of parts) (levels_of (part ∷ [])) ls)) (p.onward (levels_of (part ∷ []) ++ ls) (q.onward ls h));
      all = λ ls h. subst (TakeAll (length all) 0 (length all)) (sym (append_assoc (levels_of parts) (levels_of (part ∷ [])) ls)) (p.all (levels_of (part ∷ []) ++ ls) (q.all ls h));
    })))

-- where nothing is left, the levels that were cut off are all
pub record IsLined (es : List Active) (cs : List Contact) (levels : List Level) : Type 0 where
  pub tops : AreTops None es cs [] levels
  pub onward : AllGoOn levels
  pub all : TakeAll (length es) 0 (length es) levels

-- the levels that were cut off are the levels of the slab
pub lined-whole : (es es' : List Active) (cs cs' : List Contact) (levels : List Level) → es' ≡ [] → LinedOff es es' cs cs' levels → IsLined es cs levels
lined-whole es es' cs cs' levels e h =
    record {
      tops = subst (AreTops None es cs []) (append-nil levels) (h.tops [] (e, refl));
      onward = subst AllGoOn (append-nil levels) (h.onward [] tt);
      all = subst (TakeAll (length es) 0 (length es)) (append-nil levels) (h.all [] (ap length e, (refl, ap length e)));
    }

-- ---- what is left behind a level
-- where some edges are taken off with their contacts, there are no more contacts than neighbours
pub few-drop : (n : ℕ) (cs cs' : List Contact) (es es' : List Active) → cs' ≡ drop n cs → es' ≡ drop n es → length cs ≤ length es - 1 → length cs' ≤ length es' - 1
few-drop n cs cs' es es' e f h =
    smaller (length cs') (length es') (length cs) (length es) n (ap length e ∙ length-drop n cs) (ap length f ∙ length-drop n es) h
  where
    smaller : (a b c d n : ℕ) → a ≡ c - n → b ≡ d - n → c ≤ d - 1 → a ≤ b - 1
    smaller a b c d n e f h = omega arith

-- the room that is left shrinks with each level
pub room-left : (done done' e e' v v' n m all : ℕ) → done' ≤ done + (n + m) → e' + n ≡ e → v' + m ≡ v → done + (e + v) ≤ all → done' + (e' + v') ≤ all
room-left done done' e e' v v' n m all h i j k = omega arith

-- one part more takes at least one edge or vertex
pub one_more : (a b n m : ℕ) → b ≡ a + 1 → 0 < n + m → b ≤ a + (n + m)
one_more a b n m e h = omega arith

-- from the edges and vertices of a level no more edges go on
pub no_more : (a b n m n' m' : ℕ) → b ≤ a + (n' + m') → n' ≡ n → m' ≡ m → b ≤ a + (n + m)
no_more a b n m n' m' h e f = omega arith

-- a list of no members
pub empty : {A : Type 0} (xs : List A) → length xs ≡ 0 → xs ≡ []
empty [] h = λ i. []
empty (x ∷ xs) h = absurd (omega arith)
