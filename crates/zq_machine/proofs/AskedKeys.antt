-- The keys of interests are keys, at every point of a run.
use Rattle.std.proofs.Common.{◌≡◌, ℕ, Bool, true, false, cond, not, List, [], ◌∷◌, Option, Some, None}
use Rattle.std.specs.BTreeMap.{insert_entry, is_at}
use Rattle.std.specs.List.{AllByRecursion, cons_option, filter_map}
use Rattle.std.specs.Map.{remove_entry}
use Rattle.std.specs.Option.{option_map_or}
use Rattle.std.specs.Ordering.{nat_cmp}
use Rattle.zq_interests.specs.declared.types.InterestEntry.{InterestEntry}
use Rattle.zq_interests.specs.Interests.{Interests, interests_of, own_key, own_keys}
use Rattle.zq_tables.specs.declared.resolved.Resolved.{Resolved}
use Rattle.zq_machine.specs.Deciding.{accepted, causes, refusal_of}
use Rattle.zq_machine.specs.Selecting.{Manner, asked_by, says_key}
use Rattle.zq_machine.specs.State.{Core, at}
use Rattle.zq_machine.specs.TextCalls.{TextCall, closing, hearing, unhearing}
use Rattle.zq_machine.proofs.Granted.{all_passed}
use Rattle.zq_machine.proofs.Worded.{Any, Each, IsKey, each_found, each_in, each_out, each_set, said_key}

-- what is asked for has no key, or one that is a key
abbrev pub MayBeKey : Option (List ℕ) → Type 0
MayBeKey None = Unit {0}
MayBeKey (Some key) = IsKey key

abbrev pub IsAsked : InterestEntry → Type 0
IsAsked i = MayBeKey i.key

abbrev pub AskKeys : List (ℕ × InterestEntry) → Type 0
AskKeys es = Each Any IsAsked es

abbrev pub AllAskKeys : Interests → Type 0
AllAskKeys ints = Each Any AskKeys ints

of_face : (face : ℕ) (ints : Interests) → AllAskKeys ints → AskKeys (interests_of face ints)
of_face face ints all = by (at face ints) (λ es e. each_found Any AskKeys (is_at (nat_cmp face)) ints es e all)
  where
    by : (o : Option (List (ℕ × InterestEntry))) → ((es : List (ℕ × InterestEntry)) → o ≡ Some es → AskKeys es) → AskKeys (option_map_or (λ es. es) o [])
    by None h = tt
    by (Some es) h = h es (λ j. Some es)

said_asked : (m : Manner) (sd : Option Resolved) → not (option_map_or says_key sd true) ≡ false → IsAsked (asked_by m sd)
said_asked m None e = tt
said_asked m (Some s) e = said_key s e

pub accepted_asked : (c : Core) (t : TextCall) → refusal_of c t ≡ None → AllAskKeys c.interests → AllAskKeys (accepted c t).interests
accepted_asked c (closing face) h all = each_out Any AskKeys (is_at (nat_cmp face.0)) c.interests all
accepted_asked c (hearing face id m sd) h all =
    each_in Any AskKeys nat_cmp c.interests face.0 (insert_entry nat_cmp (interests_of face.0 c.interests) id (asked_by m sd)) all tt
    (each_in Any IsAsked nat_cmp (interests_of face.0 c.interests) id (asked_by m sd) (of_face face.0 c.interests all) tt (said_asked m sd (all_passed (causes c (hearing face id m sd)) h).1.1.0))
accepted_asked c (unhearing face id) h all =
    each_set Any AskKeys (is_at (nat_cmp face.0)) c.interests (remove_entry (is_at (nat_cmp id)) (interests_of face.0 c.interests)) all
    (each_out Any IsAsked (is_at (nat_cmp id)) (interests_of face.0 c.interests) (of_face face.0 c.interests all))
accepted_asked c t h all = all

-- so the keys of a face's aggregating interests are keys
own_list : (es : List (ℕ × InterestEntry)) → AskKeys es → AllByRecursion IsKey (filter_map (λ (i : ℕ × InterestEntry). own_key i.1) es)
own_list [] all = tt
own_list (e ∷ es) all = by e.1.aggregate e.1.key all.0.1 (own_list es all.1)
  where
    rest : List (List ℕ)
    rest = filter_map (λ (i : ℕ × InterestEntry). own_key i.1) es

    by : (b : Bool) (o : Option (List ℕ)) → MayBeKey o → AllByRecursion IsKey rest → AllByRecursion IsKey (cons_option (cond b o None) rest)
    by true None k more = more
    by true (Some key) k more = (k, more)
    by false o k more = more

pub own_texts : (face : ℕ) (ints : Interests) → AllAskKeys ints → AllByRecursion IsKey (own_keys face ints)
own_texts face ints all = own_list (interests_of face ints) (of_face face ints all)
