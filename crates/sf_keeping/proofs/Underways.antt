-- How a session goes on that is kept in a journal.
use Rattle.std.proofs.Common.{◌≡◌, ◌≢◌, ℕ, Bool, true, false, inl, inr, List, [], ◌∷◌, ◌++◌, Option, refl, sym, ap, ◌∙◌, subst, append_assoc, append-nil}
use Rattle.sf_journal.specs.Records.{records, record_of, sum_with, sum_behind}
use Rattle.sf_journal.specs.Fronts.{IsFrontOf}
use Rattle.sf_journal.proofs.FrontLaws.{records-append}
use Rattle.sf_console.specs.History.{Machine}
use Rattle.sf_console.specs.Requests.{Request}
use Rattle.sf_keeping.specs.declared.desk.KeepFault.{KeepFault}
use Rattle.sf_keeping.specs.declared.desk.KeepFault.TheVariants.{Journal, Memory, Read, Write}
use Rattle.sf_keeping.specs.Desks.{Call, Makes, Standing, nothing_yet, after_call, after_calls}
use Rattle.sf_keeping.specs.Desks.{AnswerFails, Answers, append_fails, appends, sync_fails, syncs}
use Rattle.sf_keeping.specs.Waiting.{Waiting, nothing_waits, with_text, with_answer, keeping_calls, answering_calls, committing_calls, IsBrokenOff}
use Rattle.sf_keeping.specs.Kept.{IsKept, Keeps}
use Rattle.sf_keeping.specs.Moments.{IsCovered, AtEachMoment}
use Rattle.sf_keeping.specs.Underway.{IsUnderway, BrokeBy, BrokeOff, Stays, Breaks, GoesOnBy, BreaksWithin, IsTold}
use Rattle.sf_keeping.proofs.CallLaws.{Makes-trans, Makes-none, answering-some}
use Rattle.sf_keeping.proofs.KeptLaws.{Keeps-append, Keeps-one}
use Rattle.sf_keeping.proofs.MomentLaws.{after_calls-append, moments-snoc, moments-more}

-- the sum behind two lists of texts
pub sum_behind-append : (sum : ℕ) (texts more : List (List ℕ)) → sum_behind sum (texts ++ more) ≡ sum_behind (sum_behind sum texts) more
sum_behind-append sum [] more = refl
sum_behind-append sum (text ∷ texts) more = sum_behind-append (sum_with sum text) texts more

-- all of it is a front of it
whole : (bytes : List ℕ) → IsFrontOf bytes bytes
whole bytes = ([], sym (append-nil bytes))

-- where two runs stand: the journal has what was kept of the first and a front of what was of the second, and no more was put
-- out than the first gave
covered-between : (sum : ℕ) (old mid last : Machine) (done since : List Request) (output answers : List ℕ) (texts later : List (List ℕ)) (asked : List Request) (answered waiting : List ℕ) (broken : Bool)
    → asked ≡ done ++ since → Keeps old done output texts mid → Keeps mid since answers later last → IsFrontOf answered output → IsFrontOf waiting (records (sum_behind sum texts) later)
    → IsCovered sum old asked last (record { kept = records sum texts; waiting = waiting; answered = answered; broken = broken })
covered-between sum old mid last done since output answers texts later asked answered waiting broken parts did does has (rest, front) =
    record {
      first = done;
      later = since;
      parts = parts;
      output = output;
      texts = texts;
      mid = mid;
      answers = did;
      later_output = answers;
      later_texts = later;
      rest = does;
      answered = has;
      kept = whole (records sum texts);
      journal = (rest, records-append sum texts later ∙ ap (λ l. records sum texts ++ l) front ∙ sym (append_assoc (records sum texts) waiting rest));
    }

-- before the first request
pub Underway-start : (known : Option (List Call)) (sum : ℕ) (old : Machine) → IsUnderway known known sum old [] (nothing_waits sum) old
Underway-start known sum old =
    record {
      calls = [];
      makes = Makes-none known;
      moments = at_first;
      done = [];
      since = [];
      parts = refl;
      output = [];
      texts = [];
      mid = old;
      did = (refl, refl, refl);
      answers = [];
      later = [];
      does = (refl, refl, refl);
      standing = refl;
      waits = refl;
    }
  where
    at_first : AtEachMoment sum old [] old []
    at_first [] after is = covered-between sum old old old [] [] [] [] [] [] [] [] [] false refl (refl, refl, refl) (refl, refl, refl) ([], refl) ([], refl)
    at_first (call ∷ before) after is = absurd (none is)
      where
        none : [] ≡ call ∷ before ++ after → ⊥
        none h = cc

-- a request more was carried out, whose text and answer wait
pub Underway-line : (start now : Option (List Call)) (sum : ℕ) (old : Machine) (asked : List Request) (waiting : Waiting) (mid : Machine) (request : Request) (answer : List ℕ) (own : List (List ℕ)) (new : Machine) (next : Waiting)
    → IsUnderway start now sum old asked waiting mid → IsKept mid request answer own new
    → next ≡ record { sum = sum_behind waiting.sum own; records = waiting.records ++ records waiting.sum own; answers = waiting.answers ++ answer }
    → IsUnderway start now sum old (asked ++ request ∷ []) next new
Underway-line start now sum old asked waiting mid request answer own new next u kept is =
    let one = Keeps-one mid new request answer own kept in
    let first_sum = sum_behind sum u.texts in
    record {
      calls = u.calls;
      makes = u.makes;
      moments = moments-more sum old asked mid u.calls (request ∷ []) answer own new u.moments one;
      done = u.done;
      since = u.since ++ request ∷ [];
      parts = ap (λ l. l ++ request ∷ []) u.parts ∙ append_assoc u.done u.since (request ∷ []);
      output = u.output;
      texts = u.texts;
      mid = u.mid;
      did = u.did;
      answers = u.answers ++ answer;
      later = u.later ++ own;
      does = Keeps-append u.mid mid new u.since (request ∷ []) u.answers answer u.later own u.does one;
      standing = u.standing;
      waits =
          is ∙ ap grown u.waits
          ∙ ap (λ s. record { sum = s; records = records first_sum u.later ++ records (sum_behind first_sum u.later) own; answers = u.answers ++ answer }) (sym (sum_behind-append first_sum u.later own))
          ∙ ap (λ r. record { sum = sum_behind first_sum (u.later ++ own); records = r; answers = u.answers ++ answer }) (sym (records-append first_sum u.later own));
    }
  where
    grown : Waiting → Waiting
    grown w = record { sum = sum_behind w.sum own; records = w.records ++ records w.sum own; answers = w.answers ++ answer }

-- what stands once the records of some texts are kept, and so much was put out
abbrev stands : ℕ → List (List ℕ) → List ℕ → Standing
stands sum texts answered = record { kept = records sum texts; waiting = []; answered = answered; broken = false }

-- after one more call
standing-snoc : (calls : List Call) (standing : Standing) (call : Call) → after_calls nothing_yet calls ≡ standing → after_calls nothing_yet (calls ++ call ∷ []) ≡ after_call standing call
standing-snoc calls standing call is = after_calls-append nothing_yet calls (call ∷ []) ∙ ap (λ s. after_call s call) is

-- a moment more, of which it is known what stands then
moment : (sum : ℕ) (old last : Machine) (asked : List Request) (calls : List Call) (call : Call) (standing : Standing)
    → after_calls nothing_yet calls ≡ standing → AtEachMoment sum old asked last calls → IsCovered sum old asked last (after_call standing call)
    → AtEachMoment sum old asked last (calls ++ call ∷ [])
moment sum old last asked calls call standing is moments covered =
    moments-snoc sum old asked last calls call moments (subst (IsCovered sum old asked last) (sym (standing-snoc calls standing call is)) covered)

-- what the calls of a part lead to: it is covered at each moment, and so much is kept and put out
record Led (sum : ℕ) (old : Machine) (asked : List Request) (last : Machine) (calls : List Call) (standing : Standing) : Type 0 where
  moments : AtEachMoment sum old asked last calls
  stands : after_calls nothing_yet calls ≡ standing

-- no call more
led-none : (sum : ℕ) (old : Machine) (asked : List Request) (last : Machine) (calls : List Call) (standing : Standing) → Led sum old asked last calls standing → Led sum old asked last (calls ++ []) standing
led-none sum old asked last calls standing led = subst (λ c. Led sum old asked last c standing) (sym (append-nil calls)) led

-- records are kept
led-keeping : (sum : ℕ) (old mid last : Machine) (done since : List Request) (output answers : List ℕ) (texts later : List (List ℕ)) (asked : List Request) (calls : List Call) (bytes : List ℕ)
    → asked ≡ done ++ since → Keeps old done output texts mid → Keeps mid since answers later last → bytes ≡ records (sum_behind sum texts) later
    → Led sum old asked last calls (stands sum texts output) → Led sum old asked last (calls ++ keeping_calls bytes) (stands sum (texts ++ later) output)
led-keeping sum old mid last done since output answers texts later asked calls [] parts did does is led =
    subst (Led sum old asked last (calls ++ []))
    (ap (λ k. record { kept = k; waiting = []; answered = output; broken = false }) (sym (records-append sum texts later ∙ ap (λ l. records sum texts ++ l) (sym is) ∙ append-nil (records sum texts))))
    (led-none sum old asked last calls (stands sum texts output) led)
led-keeping sum old mid last done since output answers texts later asked calls (b ∷ bytes) parts did does is led =
    let appends = appends (b ∷ bytes) in
    let waits : Standing = record { kept = records sum texts; waiting = b ∷ bytes; answered = output; broken = false } in
    let first : AtEachMoment sum old asked last (calls ++ appends ∷ []) =
    moment sum old last asked calls appends (stands sum texts output) led.stands led.moments
    (covered-between sum old mid last done since output answers texts later asked output (b ∷ bytes) false parts did does (whole output) (subst (λ l. IsFrontOf (b ∷ bytes) l) is (whole (b ∷ bytes)))) in
    let stood : after_calls nothing_yet (calls ++ appends ∷ []) ≡ waits = standing-snoc calls (stands sum texts output) appends led.stands in
    let all : records sum texts ++ b ∷ bytes ≡ records sum (texts ++ later) = ap (λ l. records sum texts ++ l) is ∙ sym (records-append sum texts later) in
    let synced : after_call waits syncs ≡ stands sum (texts ++ later) output = ap (λ k. record { kept = k; waiting = []; answered = output; broken = false }) all in
    let second : AtEachMoment sum old asked last ((calls ++ appends ∷ []) ++ syncs ∷ []) =
    moment sum old last asked (calls ++ appends ∷ []) syncs waits stood first
    (subst (IsCovered sum old asked last) (sym synced)
    (covered-between sum old last last (done ++ since) [] (output ++ answers) [] (texts ++ later) [] asked output [] false (parts ∙ sym (append-nil (done ++ since)))
    (Keeps-append old mid last done since output answers texts later did does) (refl, refl, refl) (answers, refl) ([], refl))) in
    subst (λ c. Led sum old asked last c (stands sum (texts ++ later) output)) (append_assoc calls (appends ∷ []) (syncs ∷ []))
    (record { moments = second; stands = standing-snoc (calls ++ appends ∷ []) waits syncs stood ∙ synced })

-- answers are put out, once all is kept
led-answering : (sum : ℕ) (old last : Machine) (asked : List Request) (output answers : List ℕ) (texts : List (List ℕ)) (calls : List Call) (bytes : List ℕ)
    → Keeps old asked (output ++ answers) texts last → bytes ≡ answers
    → Led sum old asked last calls (stands sum texts output) → Led sum old asked last (calls ++ answering_calls bytes) (stands sum texts (output ++ answers))
led-answering sum old last asked output answers texts calls [] did is led =
    subst (Led sum old asked last (calls ++ [])) (ap (λ a. stands sum texts a) (sym (append-nil output) ∙ ap (λ a. output ++ a) is))
    (led-none sum old asked last calls (stands sum texts output) led)
led-answering sum old last asked output answers texts calls (b ∷ bytes) did is led =
    let out : after_call (stands sum texts output) (Answers (b ∷ bytes)) ≡ stands sum texts (output ++ answers) = ap (λ a. stands sum texts (output ++ a)) is in
    record {
      moments = moment sum old last asked calls (Answers (b ∷ bytes)) (stands sum texts output) led.stands led.moments
          (subst (IsCovered sum old asked last) (sym out)
          (covered-between sum old last last asked [] (output ++ answers) [] texts [] asked (output ++ answers) [] false (sym (append-nil asked)) did (refl, refl, refl) (whole (output ++ answers)) ([], refl)));
      stands = standing-snoc calls (stands sum texts output) (Answers (b ∷ bytes)) led.stands ∙ out;
    }

-- all that was asked was carried out
ran_all : (start now : Option (List Call)) (sum : ℕ) (old : Machine) (asked : List Request) (waiting : Waiting) (new : Machine)
    → (u : IsUnderway start now sum old asked waiting new) → Keeps old asked (u.output ++ u.answers) (u.texts ++ u.later) new
ran_all start now sum old asked waiting new u =
    subst (λ l. Keeps old l (u.output ++ u.answers) (u.texts ++ u.later) new) (sym u.parts) (Keeps-append old u.mid new u.done u.since u.output u.answers u.texts u.later u.did u.does)

-- what waited is kept
kept_first : (start now : Option (List Call)) (sum : ℕ) (old : Machine) (asked : List Request) (waiting : Waiting) (new : Machine)
    → (u : IsUnderway start now sum old asked waiting new)
    → Led sum old asked new (u.calls ++ keeping_calls waiting.records) (stands sum (u.texts ++ u.later) u.output)
kept_first start now sum old asked waiting new u =
    led-keeping sum old u.mid new u.done u.since u.output u.answers u.texts u.later asked u.calls waiting.records u.parts u.did u.does (ap (λ w. w.records) u.waits)
    (record { moments = u.moments; stands = u.standing })

-- what waited is kept and put out
committed : (start now : Option (List Call)) (sum : ℕ) (old : Machine) (asked : List Request) (waiting : Waiting) (new : Machine)
    → (u : IsUnderway start now sum old asked waiting new)
    → Led sum old asked new (u.calls ++ committing_calls waiting) (stands sum (u.texts ++ u.later) (u.output ++ u.answers))
committed start now sum old asked waiting new u =
    subst (λ c. Led sum old asked new c (stands sum (u.texts ++ u.later) (u.output ++ u.answers))) (append_assoc u.calls (keeping_calls waiting.records) (answering_calls waiting.answers))
    (led-answering sum old new asked u.output u.answers (u.texts ++ u.later) (u.calls ++ keeping_calls waiting.records) waiting.answers (ran_all start now sum old asked waiting new u)
    (ap (λ w. w.answers) u.waits) (kept_first start now sum old asked waiting new u))

pub Underway-commit : (start now next : Option (List Call)) (sum : ℕ) (old : Machine) (asked : List Request) (waiting : Waiting) (new : Machine)
    → IsUnderway start now sum old asked waiting new → Makes now next (committing_calls waiting) → IsUnderway start next sum old asked (nothing_waits waiting.sum) new
Underway-commit start now next sum old asked waiting new u makes =
    let led = committed start now sum old asked waiting new u in
    record {
      calls = u.calls ++ committing_calls waiting;
      makes = Makes-trans start now next u.calls (committing_calls waiting) u.makes makes;
      moments = led.moments;
      done = asked;
      since = [];
      parts = sym (append-nil asked);
      output = u.output ++ u.answers;
      texts = u.texts ++ u.later;
      mid = new;
      did = ran_all start now sum old asked waiting new u;
      answers = [];
      later = [];
      does = (refl, refl, refl);
      standing = led.stands;
      waits = ap nothing_waits (ap (λ w. w.sum) u.waits ∙ sym (sum_behind-append sum u.texts u.later));
    }

-- it broke off as what waited was to be kept and put out
pub Underway-broken : (fault : KeepFault) (start now next : Option (List Call)) (sum : ℕ) (old : Machine) (asked : List Request) (waiting : Waiting) (new : Machine) (calls : List Call)
    → IsUnderway start now sum old asked waiting new → Makes now next calls → IsBrokenOff fault waiting calls → BrokeOff fault start next sum old asked new
Underway-broken fault start now next sum old asked waiting new calls u makes broken =
    record {
      calls = u.calls ++ calls;
      makes = Makes-trans start now next u.calls calls u.makes makes;
      moments = at fault broken;
      told = by fault broken;
    }
  where
    of_records : IsFrontOf waiting.records (records (sum_behind sum u.texts) u.later)
    of_records = subst (λ l. IsFrontOf waiting.records l) (ap (λ w. w.records) u.waits) (whole waiting.records)

    -- where the records could not be appended or synced, and where they were and the answers could not be put out
    at_append : AtEachMoment sum old asked new (u.calls ++ append_fails waiting.records ∷ [])
    at_append = moment sum old new asked u.calls (append_fails waiting.records) (stands sum u.texts u.output) u.standing u.moments
        (covered-between sum old u.mid new u.done u.since u.output u.answers u.texts u.later asked u.output waiting.records true u.parts u.did u.does (whole u.output) of_records)

    at_sync : AtEachMoment sum old asked new (u.calls ++ appends waiting.records ∷ sync_fails ∷ [])
    at_sync =
        let waits : Standing = record { kept = records sum u.texts; waiting = waiting.records; answered = u.output; broken = false } in
        let first = moment sum old new asked u.calls (appends waiting.records) (stands sum u.texts u.output) u.standing u.moments
        (covered-between sum old u.mid new u.done u.since u.output u.answers u.texts u.later asked u.output waiting.records false u.parts u.did u.does (whole u.output) of_records) in
        let second = moment sum old new asked (u.calls ++ appends waiting.records ∷ []) sync_fails waits (standing-snoc u.calls (stands sum u.texts u.output) (appends waiting.records) u.standing) first
        (covered-between sum old u.mid new u.done u.since u.output u.answers u.texts u.later asked u.output waiting.records true u.parts u.did u.does (whole u.output) of_records) in
        subst (AtEachMoment sum old asked new) (append_assoc u.calls (appends waiting.records ∷ []) (sync_fails ∷ [])) second

    at_answer : AtEachMoment sum old asked new (u.calls ++ keeping_calls waiting.records ++ AnswerFails waiting.answers ∷ [])
    at_answer =
        let kept = kept_first start now sum old asked waiting new u in
        let all = ran_all start now sum old asked waiting new u in
        let out : after_call (stands sum (u.texts ++ u.later) u.output) (AnswerFails waiting.answers)
        ≡ record { kept = records sum (u.texts ++ u.later); waiting = []; answered = u.output ++ u.answers; broken = true } =
        ap (λ a. record { kept = records sum (u.texts ++ u.later); waiting = []; answered = u.output ++ a; broken = true }) (ap (λ w. w.answers) u.waits) in
        moment sum old new asked (u.calls ++ keeping_calls waiting.records) (AnswerFails waiting.answers) (stands sum (u.texts ++ u.later) u.output) kept.stands kept.moments
        (subst (IsCovered sum old asked new) (sym out)
        (covered-between sum old new new asked [] (u.output ++ u.answers) [] (u.texts ++ u.later) [] asked (u.output ++ u.answers) [] true (sym (append-nil asked)) all (refl, refl, refl) (whole (u.output ++ u.answers)) ([], refl)))

    at : (fault : KeepFault) → IsBrokenOff fault waiting calls → AtEachMoment sum old asked new (u.calls ++ calls)
    at Journal (inl is) = subst (λ c. AtEachMoment sum old asked new (u.calls ++ c)) (sym is) at_append
    at Journal (inr is) = subst (λ c. AtEachMoment sum old asked new (u.calls ++ c)) (sym is) at_sync
    at Write is = subst (λ c. AtEachMoment sum old asked new (u.calls ++ c)) (sym is)
        (subst (AtEachMoment sum old asked new) (append_assoc u.calls (keeping_calls waiting.records) (AnswerFails waiting.answers ∷ [])) at_answer)
    at Read none = absurd none
    at Memory none = absurd none

    by : (fault : KeepFault) → IsBrokenOff fault waiting calls → BrokeBy fault (u.calls ++ calls)
    by Journal (inl is) = (u.calls, inr (waiting.records, ap (λ c. u.calls ++ c) is))
    by Journal (inr is) =
        (u.calls ++ appends waiting.records ∷ [], inl (ap (λ c. u.calls ++ c) is ∙ sym (append_assoc u.calls (appends waiting.records ∷ []) (sync_fails ∷ []))))
    by Write is =
        (u.calls ++ keeping_calls waiting.records, waiting.answers, ap (λ c. u.calls ++ c) is ∙ sym (append_assoc u.calls (keeping_calls waiting.records) (AnswerFails waiting.answers ∷ [])))
    by Read none = absurd none
    by Memory none = absurd none

-- an answer more waits, of a line that changed nothing
pub Underway-told : (start now : Option (List Call)) (sum : ℕ) (old : Machine) (asked : List Request) (waiting : Waiting) (mid : Machine) (request : Request) (answer : List ℕ)
    → IsUnderway start now sum old asked waiting mid → IsKept mid request answer [] mid → IsUnderway start now sum old (asked ++ request ∷ []) (with_answer waiting answer) mid
Underway-told start now sum old asked waiting mid request answer u kept =
    Underway-line start now sum old asked waiting mid request answer [] mid (with_answer waiting answer) u kept
    (ap (λ r. record { sum = waiting.sum; records = r; answers = waiting.answers ++ answer }) (sym (append-nil waiting.records)))

-- a text and an answer more wait, of a line that was accepted
pub Underway-changed : (start now : Option (List Call)) (sum : ℕ) (old : Machine) (asked : List Request) (waiting : Waiting) (mid : Machine) (request : Request) (answer text : List ℕ) (new : Machine)
    → IsUnderway start now sum old asked waiting mid → IsKept mid request answer (text ∷ []) new
    → IsUnderway start now sum old (asked ++ request ∷ []) (with_answer (with_text waiting text) answer) new
Underway-changed start now sum old asked waiting mid request answer text new u kept =
    Underway-line start now sum old asked waiting mid request answer (text ∷ []) new (with_answer (with_text waiting text) answer) u kept
    (ap (λ r. record { sum = sum_with waiting.sum text; records = waiting.records ++ r; answers = waiting.answers ++ answer }) (sym (append-nil (record_of waiting.sum text))))

-- what broke off did so too with requests more that were carried out
pub BrokeOff-more : (fault : KeepFault) (start now : Option (List Call)) (sum : ℕ) (old : Machine) (asked : List Request) (mid : Machine) (more : List Request) (output : List ℕ) (texts : List (List ℕ)) (new : Machine)
    → BrokeOff fault start now sum old asked mid → Keeps mid more output texts new → BrokeOff fault start now sum old (asked ++ more) new
BrokeOff-more fault start now sum old asked mid more output texts new b keeps =
    record { calls = b.calls; makes = b.makes; moments = moments-more sum old asked mid b.calls more output texts new b.moments keeps; told = b.told }

-- what waits was kept
pub Stays-commit : (before now : Option (List Call)) (was waits : Waiting) → Makes before now (committing_calls was) → waits ≡ nothing_waits was.sum → Stays before now was waits
Stays-commit before now was waits makes is start sum first asked machine u =
    subst (λ w. IsUnderway start now sum first asked w machine) (sym is) (Underway-commit start before now sum first asked was machine u makes)

-- it broke off there
pub Breaks-commit : (fault : KeepFault) (before now : Option (List Call)) (was : Waiting) → (calls : List Call) × Makes before now calls × IsBrokenOff fault was calls → Breaks fault before now was
Breaks-commit fault before now was (calls, makes, broken) start sum first asked machine u = Underway-broken fault start before now sum first asked was machine calls u makes broken

-- an answer waits
pub GoesOnBy-told : (calls : Option (List Call)) (was waits : Waiting) (machine : Machine) (request : Request) (answer : List ℕ)
    → IsTold machine request answer → waits ≡ with_answer was answer → GoesOnBy calls calls was machine (request ∷ []) waits machine
GoesOnBy-told calls was waits machine request answer told is start sum first asked u =
    subst (λ w. IsUnderway start calls sum first (asked ++ request ∷ []) w machine) (sym is) (Underway-told start calls sum first asked was machine request answer u told)

-- it waits once all that waited before was kept
pub GoesOnBy-behind : (before now : Option (List Call)) (was mid waits : Waiting) (machine : Machine) (request : Request) (answer : List ℕ)
    → Stays before now was mid → IsTold machine request answer → waits ≡ with_answer mid answer → GoesOnBy before now was machine (request ∷ []) waits machine
GoesOnBy-behind before now was mid waits machine request answer stays told is start sum first asked u =
    GoesOnBy-told now mid waits machine request answer told is start sum first asked (stays start sum first asked machine u)

-- it is put out at once, where nothing waits
pub GoesOnBy-answered : (before now after : Option (List Call)) (was mid : Waiting) (machine : Machine) (request : Request) (answer : List ℕ) (sum' : ℕ)
    → Stays before now was mid → mid ≡ nothing_waits sum' → IsTold machine request answer → answer ≢ [] → Makes now after (Answers answer ∷ [])
    → GoesOnBy before after was machine (request ∷ []) mid machine
GoesOnBy-answered before now after was mid machine request answer sum' stays none told some makes start sum first asked u =
    let told_u = Underway-told start now sum first asked mid machine request answer (stays start sum first asked machine u) told in
    let empty : with_answer mid answer ≡ with_answer (nothing_waits sum') answer = ap (λ w. with_answer w answer) none in
    let calls : committing_calls (with_answer mid answer) ≡ Answers answer ∷ [] = ap committing_calls empty ∙ answering-some answer some in
    subst (λ w. IsUnderway start after sum first (asked ++ request ∷ []) w machine) (ap nothing_waits (ap (λ w. w.sum) none) ∙ sym none)
    (Underway-commit start now after sum first (asked ++ request ∷ []) (with_answer mid answer) machine told_u (subst (Makes now after) (sym calls) makes))

-- it broke off before the answer
pub BreaksWithin-before : (fault : KeepFault) (before now : Option (List Call)) (was : Waiting) (old : Machine) (more : List Request) → Breaks fault before now was → BreaksWithin fault before now was old more old
BreaksWithin-before fault before now was old more breaks start sum first asked u =
    ([], more, refl, subst (λ l. BrokeOff fault start now sum first l old) (sym (append-nil asked)) (breaks start sum first asked old u))

-- it broke off within the answer
pub BreaksWithin-answered : (before now after : Option (List Call)) (was mid : Waiting) (machine : Machine) (request : Request) (answer : List ℕ) (sum' : ℕ)
    → Stays before now was mid → mid ≡ nothing_waits sum' → IsTold machine request answer → Makes now after (AnswerFails answer ∷ [])
    → BreaksWithin Write before after was machine (request ∷ []) machine
BreaksWithin-answered before now after was mid machine request answer sum' stays none told makes start sum first asked u =
    let told_u = Underway-told start now sum first asked mid machine request answer (stays start sum first asked machine u) told in
    let calls : keeping_calls mid.records ++ AnswerFails (mid.answers ++ answer) ∷ [] ≡ AnswerFails answer ∷ [] = ap (λ w. keeping_calls w.records ++ AnswerFails (w.answers ++ answer) ∷ []) none in
    (request ∷ [], [], refl, Underway-broken Write start now after sum first (asked ++ request ∷ []) (with_answer mid answer) machine (AnswerFails answer ∷ []) told_u makes (sym calls))
