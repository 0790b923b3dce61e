-- What is handed by calls, one after another.
use Rattle.std.proofs.Common.{◌≡◌, ◌∙◌, sym, ap, refl, ℕ, ◌+◌, List, [], ◌∷◌, ◌++◌, append_assoc, map, ◌<◌, length, drop, get_or}
use Rattle.std.proofs.lemmas.List.{at_drop_more, drop_more}
use Rattle.zq_machine.specs.declared.call.Call.{Call}
use Rattle.zq_machine.specs.declared.call.Call.TheVariants as call
use Rattle.zq_machine.specs.Handing.{Handed}
use Rattle.zq_machine.specs.Machine.{after, state_after, step, steps_from}
use Rattle.zq_machine.specs.State.{State}
use Rattle.zq_store.specs.declared.answers.Answer.{Answer}
use Rattle.zq_store.specs.declared.answers.AskedStore.{AskedStore}
use Rattle.zq_store.specs.Getting.{end_call, handed_over, reply_call, reply_calls}

pub ended_next : (h : List Handed) (s : State) (t : AskedStore) (ts : List AskedStore)
    → (h ++ (step s (end_call t)).handed) ++ handed_over (steps_from (after s (end_call t)) (map end_call ts)) ≡ h ++ handed_over (steps_from s (map end_call (t ∷ ts)))
ended_next h s t ts = append_assoc h (step s (end_call t)).handed (handed_over (steps_from (after s (end_call t)) (map end_call ts)))

pub replied_next : (h : List Handed) (s : State) (n : ℕ) (a : Answer) (more : List Answer)
    → ((h ++ (step s (reply_call a)).handed) ++ (step (after s (reply_call a)) (call.Sent n)).handed) ++ handed_over (steps_from (after (after s (reply_call a)) (call.Sent n)) (reply_calls (n + 1) more))
    ≡ h ++ handed_over (steps_from s (reply_calls n (a ∷ more)))
replied_next h s n a more =
    let first = (step s (reply_call a)).handed in
    let second = (step (after s (reply_call a)) (call.Sent n)).handed in
    let rest = handed_over (steps_from (after (after s (reply_call a)) (call.Sent n)) (reply_calls (n + 1) more)) in
    append_assoc (h ++ first) second rest ∙ append_assoc h first (second ++ rest)

pub ended_step : (h : List Handed) (s : State) (ts : List AskedStore) (i : ℕ) (d : AskedStore) → i < length ts
    → (h ++ (step s (end_call (get_or ts i d))).handed) ++ handed_over (steps_from (after s (end_call (get_or ts i d))) (map end_call (drop (i + 1) ts))) ≡ h ++ handed_over (steps_from s (map end_call (drop i ts)))
ended_step h s ts i d lt = ended_next h s (get_or ts i d) (drop (i + 1) ts) ∙ sym (at_drop_more (λ l. h ++ handed_over (steps_from s (map end_call l))) ts i d lt)

pub ended_after : (s : State) (ts : List AskedStore) (i : ℕ) (d : AskedStore) → i < length ts
    → state_after (after s (end_call (get_or ts i d))) (map end_call (drop (i + 1) ts)) ≡ state_after s (map end_call (drop i ts))
ended_after s ts i d lt = sym (at_drop_more (λ l. state_after s (map end_call l)) ts i d lt)

pub replied_step : (h : List Handed) (s : State) (n : ℕ) (l : List Answer) (i : ℕ) (d : Answer) → i < length l
    → ((h ++ (step s (reply_call (get_or l i d))).handed) ++ (step (after s (reply_call (get_or l i d))) (call.Sent n)).handed) ++ handed_over (steps_from (after (after s (reply_call (get_or l i d))) (call.Sent n)) (reply_calls (n + 1) (drop (i + 1) l)))
    ≡ h ++ handed_over (steps_from s (reply_calls n (drop i l)))
replied_step h s n l i d lt = replied_next h s n (get_or l i d) (drop (i + 1) l) ∙ sym (at_drop_more (λ m. h ++ handed_over (steps_from s (reply_calls n m))) l i d lt)

pub replied_after : (s : State) (n : ℕ) (l : List Answer) (i : ℕ) (d : Answer) → i < length l
    → state_after (after (after s (reply_call (get_or l i d))) (call.Sent n)) (reply_calls (n + 1) (drop (i + 1) l)) ≡ state_after s (reply_calls n (drop i l))
replied_after s n l i d lt = sym (at_drop_more (λ m. state_after s (reply_calls n m)) l i d lt)

-- the same of an answer that stands there
pub replied_there : (h : List Handed) (s : State) (n : ℕ) (l rest : List Answer) (a : Answer) → l ≡ a ∷ rest
    → ((h ++ (step s (reply_call a)).handed) ++ (step (after s (reply_call a)) (call.Sent n)).handed) ++ handed_over (steps_from (after (after s (reply_call a)) (call.Sent n)) (reply_calls (n + 1) rest))
    ≡ h ++ handed_over (steps_from s (reply_calls n l))
replied_there h s n l rest a e = replied_next h s n a rest ∙ sym (ap (λ m. h ++ handed_over (steps_from s (reply_calls n m))) e)

pub drop_there : (l : List Answer) (i : ℕ) (a : Answer) → i < length l → get_or l i a ≡ a → drop i l ≡ a ∷ drop (i + 1) l
drop_there l i a lt e = drop_more l i a lt ∙ ap (λ x. x ∷ drop (i + 1) l) e

-- calls after others
pub handed_join : (s : State) (xs ys : List Call) → handed_over (steps_from s (xs ++ ys)) ≡ handed_over (steps_from s xs) ++ handed_over (steps_from (state_after s xs) ys)
handed_join s [] ys = refl
handed_join s (c ∷ xs) ys =
    ap (λ l. (step s c).handed ++ l) (handed_join (after s c) xs ys)
    ∙ sym (append_assoc (step s c).handed (handed_over (steps_from (after s c) xs)) (handed_over (steps_from (state_after (after s c) xs) ys)))

pub after_join : (s : State) (xs ys : List Call) → state_after s (xs ++ ys) ≡ state_after (state_after s xs) ys
after_join s [] ys = refl
after_join s (c ∷ xs) ys = after_join (after s c) xs ys

-- a request, what is replied, and the ends, made one after another
pub handed_whole : (s g k : State) (h i j : List Handed) (q : Call) (xs ys : List Call)
    → h ≡ (step s q).handed → g ≡ after s q → i ≡ h ++ handed_over (steps_from g xs) → k ≡ state_after g xs → j ≡ i ++ handed_over (steps_from k ys)
    → j ≡ handed_over (steps_from s (q ∷ (xs ++ ys)))
handed_whole s g k h i j q xs ys eh eg ei ek ej =
    ej
    ∙ (λ t. ei t ++ handed_over (steps_from (ek t) ys))
    ∙ append_assoc h (handed_over (steps_from g xs)) (handed_over (steps_from (state_after g xs) ys))
    ∙ ap (λ l. h ++ l) (sym (handed_join g xs ys))
    ∙ (λ t. eh t ++ handed_over (steps_from (eg t) (xs ++ ys)))

pub after_whole : (s g k m : State) (q : Call) (xs ys : List Call)
    → g ≡ after s q → k ≡ state_after g xs → m ≡ state_after k ys → m ≡ state_after s (q ∷ (xs ++ ys))
after_whole s g k m q xs ys eg ek em = em ∙ ap (λ u. state_after u ys) ek ∙ sym (after_join g xs ys) ∙ ap (λ u. state_after u (xs ++ ys)) eg
