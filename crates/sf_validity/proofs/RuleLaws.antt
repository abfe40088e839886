-- Lists of rules, one after another: none applies, or the first that does has a fault.
use Rattle.std.proofs.Common.{◌≡◌, ap, sym, ◌∙◌, subst, ℕ, ◌+◌, ◌<◌, ◌≤◌, arith, inl, inr, Result, Ok, Err, IfErr, List, [], ◌∷◌, ◌++◌, length, take, drop, slice_index_or}
use Rattle.std.specs.List.{flat_map}
use Rattle.std.specs.Prelude.{IsErrAnd}
use Rattle.std.proofs.lemmas.Bool.{false≢true}
use Rattle.std.proofs.lemmas.Result.{err_from_is_err_and}
use Rattle.std.proofs.lemmas.List.{drop_more, length-append, take-append-drop, take_all}
use Rattle.std.proofs.lemmas.Grind.{flat_map-append}
use Rattle.sf_grid.specs.Plane.{Coordinates}
use Rattle.sf_geometry.specs.Parts.{joined}
use Rattle.sf_geometry.proofs.ListLaws.{flat_map-joined, flat_map-more}
use Rattle.sf_valid_rules.specs.declared.fault.Fault.{Fault}
use Rattle.sf_valid_rules.specs.Rules.{Rule, polygon_rules, ring_rules}
use Rattle.sf_valid_rules.specs.Validity.{IsFirstOf, NoneApplies}
use Rattle.sf_validity.specs.declared.refusal.Refusal.{Refusal}
use Rattle.sf_validity.specs.declared.refusal.Refusal.TheVariants.{Empty, Invalid, Memory, NoVertex, TooManyVertices}
use Rattle.sf_validity.specs.Refusals.{RefusesBy}

pub none-append : (rules others : List Rule) → NoneApplies rules → NoneApplies others → NoneApplies (rules ++ others)
none-append [] others n m = m
none-append (rule ∷ rules) others n m = (n.0, none-append rules others n.1 m)

first-left : (rules others : List Rule) (fault : Fault) → IsFirstOf rules fault → IsFirstOf (rules ++ others) fault
first-left [] others fault f = absurd f
first-left (rule ∷ rules) others fault (inl f) = inl f
first-left (rule ∷ rules) others fault (inr f) = inr (f.0, first-left rules others fault f.1)

pub first-right : (rules others : List Rule) (fault : Fault) → NoneApplies rules → IsFirstOf others fault → IsFirstOf (rules ++ others) fault
first-right [] others fault n f = f
first-right (rule ∷ rules) others fault n f = inr (n.0, first-right rules others fault n.1 f)

pub refuses-left : (rules others : List Rule) (refusal : Refusal) → RefusesBy rules refusal → RefusesBy (rules ++ others) refusal
refuses-left rules others Memory r = tt
refuses-left rules others Empty r = r
refuses-left rules others TooManyVertices r = r
refuses-left rules others NoVertex r = r
refuses-left rules others (Invalid fault) r = first-left rules others fault r

pub refuses-right : (rules others : List Rule) (refusal : Refusal) → NoneApplies rules → RefusesBy others refusal → RefusesBy (rules ++ others) refusal
refuses-right rules others Memory n r = tt
refuses-right rules others Empty n r = r
refuses-right rules others TooManyVertices n r = r
refuses-right rules others NoVertex n r = r
refuses-right rules others (Invalid fault) n r = first-right rules others fault n r

-- ---- the rules of the members of a list, in turn
-- what comes of all members: of those before one, of that one, and of the others
pub parted : {X Y : Type 0} (f : X → List Y) (xs : List X) (i : ℕ) (x : X) → i < length xs → x ≡ slice_index_or xs i x
    → flat_map f xs ≡ flat_map f (take i xs) ++ (f x ++ flat_map f (drop (i + 1) xs))
parted f xs i x h e =
    ap (flat_map f) (sym (take-append-drop i xs))
    ∙ flat_map-append f (take i xs) (drop i xs)
    ∙ ap (λ ys. flat_map f (take i xs) ++ flat_map f ys) (drop_more xs i x h ∙ ap (λ y. y ∷ drop (i + 1) xs) (sym e))

pub refuses-at : {X : Type 0} (f : X → List Rule) (xs : List X) (i : ℕ) (x y : X) (refusal : Refusal) → i < length xs → x ≡ slice_index_or xs i x → y ≡ x
    → NoneApplies (flat_map f (take i xs)) → RefusesBy (f y) refusal → RefusesBy (flat_map f xs) refusal
refuses-at f xs i x y refusal h e s n r =
    subst (λ rules. RefusesBy rules refusal) (sym (parted f xs i x h e))
    (refuses-right (flat_map f (take i xs)) (f x ++ flat_map f (drop (i + 1) xs)) refusal n
    (refuses-left (f x) (flat_map f (drop (i + 1) xs)) refusal (subst (λ z. RefusesBy (f z) refusal) s r)))

-- none applies to one more of the members
pub none-more : {X : Type 0} (f : X → List Rule) (xs : List X) (i : ℕ) (x y : X) → i < length xs → x ≡ slice_index_or xs i x → y ≡ x
    → NoneApplies (flat_map f (take i xs)) → NoneApplies (f y) → NoneApplies (flat_map f (take (i + 1) xs))
none-more f xs i x y h e s n r =
    subst NoneApplies (sym (flat_map-more f xs i x h e)) (none-append (flat_map f (take i xs)) (f x) n (subst (λ z. NoneApplies (f z)) s r))

-- one list of several is at most as long as all of them
pub length-part : {X Y : Type 0} (f : X → List Y) (xs : List X) (i : ℕ) (x y : X) → i < length xs → x ≡ slice_index_or xs i x → y ≡ x
    → length (f y) ≤ length (flat_map f xs)
length-part f xs i x y h e s =
    let whole = ap length (parted f xs i x h e)
    ∙ length-append (flat_map f (take i xs)) (f x ++ flat_map f (drop (i + 1) xs))
    ∙ ap (λ n. length (flat_map f (take i xs)) + n) (length-append (f x) (flat_map f (drop (i + 1) xs))) in
    omega (arith, whole, ap (λ z. length (f z)) s)

-- ---- what a `?` passes on
pub err-passed : {T E : Type 0} (r : Result T E) (e : E) (P : E → Type 0) → IsErrAnd r (λ x. x ≡ e) → P e → IfErr r P
err-passed r e P h p =
    let given = err_from_is_err_and r h in
    subst (λ s. IfErr s P) (sym given.1) (subst P (sym given.2) p)

-- ---- the rules of a whole geometry
no_polygons : NoneApplies (polygon_rules [])
no_polygons = (λ h. false≢true h.4, (λ h. false≢true h.2, (λ h. false≢true h.2, (λ h. false≢true h.2, tt))))

pub lines-valid : (rules : List Rule) → NoneApplies rules → NoneApplies ((rules ++ []) ++ polygon_rules [])
lines-valid rules n = none-append (rules ++ []) (polygon_rules []) (none-append rules [] n tt) no_polygons

pub lines-refused : {T : Type 0} (r : Result T Refusal) (rules : List Rule) → IfErr r (RefusesBy rules) → IfErr r (RefusesBy ((rules ++ []) ++ polygon_rules []))
lines-refused (Ok t) rules h = tt
lines-refused (Err refusal) rules h = refuses-left (rules ++ []) (polygon_rules []) refusal (refuses-left rules [] refusal h)

-- the rules of the rings of several polygons, in turn
pub rings-each : (polygons : List (List (List Coordinates))) → flat_map (λ rings. flat_map ring_rules rings) polygons ≡ flat_map ring_rules (joined polygons)
rings-each polygons = flat_map-joined ring_rules polygons

pub points-each : (polygons : List (List (List Coordinates))) → flat_map (λ rings. joined rings) polygons ≡ joined (joined polygons)
points-each polygons = flat_map-joined (λ ps. ps) polygons

-- none applies to the rings of all polygons, where all were passed
pub rings-passed : (i : ℕ) (polygons : List (List (List Coordinates))) → length polygons ≤ i
    → NoneApplies (flat_map (λ rings. flat_map ring_rules rings) (take i polygons)) → NoneApplies (flat_map ring_rules (joined polygons))
rings-passed i polygons h n =
    subst NoneApplies (ap (flat_map (λ rings. flat_map ring_rules rings)) (take_all i polygons h) ∙ rings-each polygons) n
