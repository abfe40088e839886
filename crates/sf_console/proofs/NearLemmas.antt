-- The answers to `nearest` and `reach`.
use Rattle.std.proofs.Common.{◌≡◌, ◌∙◌, ℕ, Bool, true, List, [], ◌∷◌, ◌++◌, map, codes, decimal, Option, None, Some, Result, Ok, Err, inl, inr, if◌then◌else◌, refl, sym, ap}
use Rattle.std.specs.Global.{Vec}
use Rattle.std.specs.List.{list_all}
use Rattle.std.specs.Result.{IsErrAnd}
use Rattle.std.proofs.lemmas.Bool.{and_from, and_parts, false_from_ne_true}
use Rattle.sf_refusals.specs.declared.refusal.Refusal.{Refusal}
use Rattle.sf_refusals.specs.declared.refusal.Refusal.TheVariants.{Memory}
use Rattle.sf_geometry.specs.declared.geometry.Geometry.{Geometry}
use Rattle.sf_distance.specs.Texts.{distance_text}
use Rattle.sf_layers.specs.Content.{LayerContent}
use Rattle.sf_query.specs.declared.ask.Ask.{Ask}
use Rattle.sf_query.specs.declared.refusal.Refusal.{Refusal as QueryRefusal}
use Rattle.sf_query.specs.declared.refusal.Refusal.TheVariants as queries
use Rattle.sf_query.specs.Refusals.{refusal_of}
use Rattle.sf_near.specs.declared.distant.Distant.{Distant}
use Rattle.sf_near.specs.Found.{AreTold, IsTold, distance_told}
use Rattle.sf_near.specs.Nearest.{nearest_of}
use Rattle.sf_near.specs.Replies.{IsToldNearest}
use Rattle.sf_near.proofs.NearerLaws.{Feature}
use Rattle.sf_reach.specs.Answers.{ids_reached}
use Rattle.sf_reach.specs.Chains.{Stop}
use Rattle.sf_reach.specs.Replies.{AreThere, IsReach, IsReachOf, IsReachUntil}
use Rattle.sf_console.specs.declared.reply.Reply.{Reply}
use Rattle.sf_console.specs.Answers.{is_there, nearest_row, nearest_rows, reached_from, reached_rows, reached_until, refusal_line, reply_text, rows, rows_of}
use Rattle.sf_console.specs.NearRows.{told_row}
use Rattle.sf_console.proofs.QueryLemmas.{IsToldAs, refused-as, written-alike}

-- ---- the nearest

row-alike : (d : Distant) (p : Feature) → IsTold d p → told_row d ≡ nearest_row p
row-alike d p told =
    ap (λ (id : ℕ). decimal id ++ (codes " " ++ distance_text (distance_told d).1)) told.same
    ∙ ap (λ (t : List ℕ). decimal p.0 ++ (codes " " ++ t)) (written-alike d.square p.1 told.told told.is_number told.equal)

rows-alike : (ds : List Distant) (ps : List Feature) → AreTold ds ps → map told_row ds ≡ map nearest_row ps
rows-alike [] [] told = refl
rows-alike [] (p ∷ ps) told = absurd told
rows-alike (d ∷ ds) [] told = absurd told
rows-alike (d ∷ ds) (p ∷ ps) told = ap (λ t. t ∷ map told_row ds) (row-alike d p told.0) ∙ ap (λ ts. nearest_row p ∷ ts) (rows-alike ds ps told.1)

pub nearest-rows : (o : Option LayerContent) (count : ℕ) (given : Geometry) (found : Vec Distant) → IsToldNearest o count given (Ok found)
    → rows (map told_row found.items) ≡ rows_of (nearest_rows count given) o
nearest-rows None count given found h = cc
nearest-rows (Some layer) count given found h = ap rows (rows-alike found.items (nearest_of layer count given) h)

pub nearest-refused : (o : Option LayerContent) (count : ℕ) (given : Geometry) (refusal : QueryRefusal) (r : Result Reply Refusal) → IsToldNearest o count given (Err refusal)
    → IsErrAnd r (λ e. e ≡ refusal_of refusal) → IsToldAs (rows_of (nearest_rows count given) o) (reply_text r)
nearest-refused None count given refusal r h is = inl (refused-as refusal queries.NoLayer r is cc)
nearest-refused (Some layer) count given refusal r want is = inr (refused-as refusal queries.Memory r is want)

-- ---- chains

all-there : (layer : LayerContent) (ids : List ℕ) → AreThere layer ids → list_all (is_there layer) ids ≡ true
all-there layer [] there = refl
all-there layer (id ∷ ids) there = and_from (is_there layer id) (list_all (is_there layer) ids) there.0 (all-there layer ids there.1)

there-all : (layer : LayerContent) (ids : List ℕ) → list_all (is_there layer) ids ≡ true → AreThere layer ids
there-all layer [] all = tt
there-all layer (id ∷ ids) all = let parts = and_parts (is_there layer id) (list_all (is_there layer) ids) all in (parts.0, there-all layer ids parts.1)

pub found-there : (layer : LayerContent) (ask : Ask) (stop : Option Stop) (given : List ℕ) → AreThere layer given → reached_rows layer ask stop given ≡ rows (map decimal (ids_reached layer ask stop given))
found-there layer ask stop given there =
    ap (λ b. if b then rows (map decimal (ids_reached layer ask stop given)) else refusal_line (refusal_of queries.NoFeature)) (all-there layer given there)

pub reached-rows : (layer : LayerContent) (ask : Ask) (stop : Option Stop) (given : List ℕ) (ids : Vec ℕ) → IsReachOf layer ask stop given (Ok ids)
    → rows (map decimal ids.items) ≡ reached_rows layer ask stop given
reached-rows layer ask stop given ids h = ap (λ (is : List ℕ). rows (map decimal is)) h.1 ∙ sym (found-there layer ask stop given h.0)

reached-refused : (layer : LayerContent) (ask : Ask) (stop : Option Stop) (given : List ℕ) (refusal : QueryRefusal) (r : Result Reply Refusal) → IsReachOf layer ask stop given (Err refusal)
    → IsErrAnd r (λ e. e ≡ refusal_of refusal) → IsToldAs (reached_rows layer ask stop given) (reply_text r)
reached-refused layer ask stop given queries.NoLayer r h is = absurd h
reached-refused layer ask stop given queries.Memory r h is = inr (refused-as queries.Memory queries.Memory r is refl)
reached-refused layer ask stop given queries.NoFeature r h is =
    inl (refused-as queries.NoFeature queries.NoFeature r is refl
    ∙ sym (ap (λ b. if b then rows (map decimal (ids_reached layer ask stop given)) else refusal_line (refusal_of queries.NoFeature))
    (false_from_ne_true (list_all (is_there layer) given) (λ all. h (there-all layer given all)))))

pub reach-rows : (o : Option LayerContent) (ask : Ask) (given : List ℕ) (ids : Vec ℕ) → IsReach o ask given (Ok ids) → rows (map decimal ids.items) ≡ reached_from o ask given
reach-rows None ask given ids h = cc
reach-rows (Some layer) ask given ids h = reached-rows layer ask None given ids h

pub reach-refused : (o : Option LayerContent) (ask : Ask) (given : List ℕ) (refusal : QueryRefusal) (r : Result Reply Refusal) → IsReach o ask given (Err refusal)
    → IsErrAnd r (λ e. e ≡ refusal_of refusal) → IsToldAs (reached_from o ask given) (reply_text r)
reach-refused None ask given refusal r h is = inl (refused-as refusal queries.NoLayer r is cc)
reach-refused (Some layer) ask given refusal r h is = reached-refused layer ask None given refusal r h is

pub until-rows : (one : Bool) (o p : Option LayerContent) (ask end : Ask) (given : List ℕ) (ids : Vec ℕ) → IsReachUntil one o ask p end given (Ok ids)
    → rows (map decimal ids.items) ≡ reached_until one o ask p end given
until-rows one None p ask end given ids h = cc
until-rows one (Some layer) None ask end given ids h = cc
until-rows one (Some layer) (Some second) ask end given ids h = reached-rows layer ask (Some (record { is_own = one; layer = second; ask = end })) given ids h

pub until-refused : (one : Bool) (o p : Option LayerContent) (ask end : Ask) (given : List ℕ) (refusal : QueryRefusal) (r : Result Reply Refusal) → IsReachUntil one o ask p end given (Err refusal)
    → IsErrAnd r (λ e. e ≡ refusal_of refusal) → IsToldAs (reached_until one o ask p end given) (reply_text r)
until-refused one None p ask end given refusal r h is = inl (refused-as refusal queries.NoLayer r is cc)
until-refused one (Some layer) None ask end given refusal r h is = inl (refused-as refusal queries.NoLayer r is cc)
until-refused one (Some layer) (Some second) ask end given refusal r h is =
    reached-refused layer ask (Some (record { is_own = one; layer = second; ask = end })) given refusal r h is
