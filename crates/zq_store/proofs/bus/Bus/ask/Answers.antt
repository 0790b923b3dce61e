use Rattle.std.proofs.Common.{◌≡◌, ◌∙◌, ◌++◌, ◌∷◌, ◌+◌, ◌<◌, ◌^◌, None, true, false, ap, arith, length, map, subst, sym}
use Rattle.zq_key.specs.Key.{is_key}
use Rattle.zq_machine.specs.Machine.{state_after, steps_from}
use Rattle.zq_store.specs.Answered.{IsAnswered}
use Rattle.zq_store.specs.Bus.{BusState, IsBus, IsServed}
use Rattle.zq_store.specs.Getting.{after_get, answers_of, ask_call, asked_of, end_call, get_refusal, got_of, got_reply, handed_over, reply_calls}
use Rattle.zq_store.specs.declared.got.Got.{Got}
use Rattle.zq_store.proofs.Answering.{answered, answered_all, got_keeps, got_served, not_spent, replies_fit}
use Rattle.zq_store.proofs.Runs.{after_whole, handed_whole}
use Rattle.zq_store.proofs.bus.Bus.ask.Goals as goal

pub overflow_add-next : goal.overflow_add-next
overflow_add-next c =
    let i = c.self.inside in
    let key = c.args.key.now in
    let target = c.args.target in
    let now = c.args.now in
    let b : BusState = record { gateway = i.gateway.state; asker = i.asker; next_face = i.next_face; next_request = i.next_request; next_reply = i.next_reply; stores = i.stores; spent = i.spent } in
    let asked = c.in_ok-asked.ensures ∙ (λ j. asked_of (c.as_slice-stores.ensures j) (c.as_slice.ensures j)) ∙ ap (asked_of i.stores) c.in_ok-handed.ensures.handed in
    let answers = c.in_ok-answers.ensures ∙ (λ j. answers_of (c.as_slice-stores.ensures j) key (c.as_slice-2.ensures j)) ∙ ap (answers_of i.stores key) asked in
    let free : get_refusal key b ≡ None = ap (get_refusal key) c.self.view_is ∙ c.requires.free in
    let keyed : is_key key ≡ true = ap is_key (sym c.as_str-text.ensures.text) ∙ c.as_str-text.ensures.key in
    let fit : i.next_reply + length c.in_ok-answers.answers < 2 ^ 64 = subst (λ l. i.next_reply + length l < 2 ^ 64) (sym answers) (replies_fit b c.self.invariant key keyed target now free) in
    omega (arith, fit, c.len.ensures)

pub reply_all-requires : goal.reply_all-requires
reply_all-requires c =
    let i = c.self.inside in
    let key = c.args.key.now in
    let target = c.args.target in
    let now = c.args.now in
    let b : BusState = record { gateway = i.gateway.state; asker = i.asker; next_face = i.next_face; next_request = i.next_request; next_reply = i.next_reply; stores = i.stores; spent = i.spent } in
    let asked = c.in_ok-asked.ensures ∙ (λ j. asked_of (c.as_slice-stores.ensures j) (c.as_slice.ensures j)) ∙ ap (asked_of i.stores) c.in_ok-handed.ensures.handed in
    let answers = c.in_ok-answers.ensures ∙ (λ j. answers_of (c.as_slice-stores.ensures j) key (c.as_slice-2.ensures j)) ∙ ap (answers_of i.stores key) asked in
    let free : get_refusal key b ≡ None = ap (get_refusal key) c.self.view_is ∙ c.requires.free in
    let keyed : is_key key ≡ true = ap is_key (sym c.as_str-text.ensures.text) ∙ c.as_str-text.ensures.key in
    let fit : i.next_reply + length c.in_ok-answers.answers < 2 ^ 64 = subst (λ l. i.next_reply + length l < 2 ^ 64) (sym answers) (replies_fit b c.self.invariant key keyed target now free) in
    let long = ap length c.as_slice-3.ensures in
    omega (arith, fit, long)

pub invariant_of-self-2 : goal.invariant_of-self-2
invariant_of-self-2 c =
    let i = c.self.inside in
    let key = c.args.key.now in
    let target = c.args.target in
    let now = c.args.now in
    let b : BusState = record { gateway = i.gateway.state; asker = i.asker; next_face = i.next_face; next_request = i.next_request; next_reply = i.next_reply; stores = i.stores; spent = i.spent } in
    let asks = ask_call i.asker key target now in
    let asked = c.in_ok-asked.ensures ∙ (λ j. asked_of (c.as_slice-stores.ensures j) (c.as_slice.ensures j)) ∙ ap (asked_of i.stores) c.in_ok-handed.ensures.handed in
    let answers = c.in_ok-answers.ensures ∙ (λ j. answers_of (c.as_slice-stores.ensures j) key (c.as_slice-2.ensures j)) ∙ ap (answers_of i.stores key) asked in
    let replied = c.as_slice-3.ensures ∙ answers in
    let ended = c.as_slice-4.ensures ∙ asked in
    let after = after_whole i.gateway.state c.request.new.gateway.state c.reply_all.new.gateway.state c.end_all.new.gateway.state asks (reply_calls i.next_reply c.as_slice-3.result.now) (map end_call c.as_slice-4.result.now)
    c.in_ok-handed.ensures.after c.in_ok-reply_all.ensures.after c.in_ok-end_all.ensures.after
    ∙ (λ j. state_after i.gateway.state (asks ∷ (reply_calls i.next_reply (replied j) ++ map end_call (ended j)))) in
    let next = c.len.ensures ∙ ap length answers in
    let free : get_refusal key b ≡ None = ap (get_refusal key) c.self.view_is ∙ c.requires.free in
    let left : ◌≡◌ {A = BusState} (record { gateway = c.end_all.new.gateway.state; asker = i.asker; next_face = i.next_face; next_request = i.next_request + 1; next_reply = i.next_reply + c.len.result; stores = i.stores; spent = false }) (after_get b key target now) =
    λ j. record { gateway = after j; asker = i.asker; next_face = i.next_face; next_request = i.next_request + 1; next_reply = i.next_reply + next j; stores = i.stores; spent = sym (not_spent b key free) j } in
    let keyed : is_key key ≡ true = ap is_key (sym c.as_str-text.ensures.text) ∙ c.as_str-text.ensures.key in
    subst IsBus (sym left) (got_keeps b c.self.invariant key keyed target now free)

pub returns-clause-ok : goal.returns-clause-ok
returns-clause-ok c =
    let i = c.self.inside in
    let key = c.args.key.now in
    let target = c.args.target in
    let now = c.args.now in
    let b : BusState = record { gateway = i.gateway.state; asker = i.asker; next_face = i.next_face; next_request = i.next_request; next_reply = i.next_reply; stores = i.stores; spent = i.spent } in
    let asks = ask_call i.asker key target now in
    let asked = c.in_ok-asked.ensures ∙ (λ j. asked_of (c.as_slice-stores.ensures j) (c.as_slice.ensures j)) ∙ ap (asked_of i.stores) c.in_ok-handed.ensures.handed in
    let answers = c.in_ok-answers.ensures ∙ (λ j. answers_of (c.as_slice-stores.ensures j) key (c.as_slice-2.ensures j)) ∙ ap (answers_of i.stores key) asked in
    let replied = c.as_slice-3.ensures ∙ answers in
    let ended = c.as_slice-4.ensures ∙ asked in
    let handed = handed_whole i.gateway.state c.request.new.gateway.state c.reply_all.new.gateway.state c.in_ok-handed.handed c.reply_all.new.handed c.end_all.new.handed asks (reply_calls i.next_reply c.as_slice-3.result.now) (map end_call c.as_slice-4.result.now)
    c.in_ok-handed.ensures.handed c.in_ok-handed.ensures.after c.in_ok-reply_all.ensures.handed c.in_ok-reply_all.ensures.after c.in_ok-end_all.ensures.handed
    ∙ (λ j. handed_over (steps_from i.gateway.state (asks ∷ (reply_calls i.next_reply (replied j) ++ map end_call (ended j))))) in
    let replies = c.in_ok-replies.ensures ∙ ap (map got_reply) answers in
    let got : ◌≡◌ {A = Got} (record { replies = c.in_ok-replies.replies; handed = c.end_all.new.handed }) (got_of b key target now) = λ j. record { replies = replies j; handed = handed j } in
    got ∙ ap (λ x. got_of x key target now) c.self.view_is

pub returns-clause-new : goal.returns-clause-new
returns-clause-new c =
    let i = c.self.inside in
    let key = c.args.key.now in
    let target = c.args.target in
    let now = c.args.now in
    let b : BusState = record { gateway = i.gateway.state; asker = i.asker; next_face = i.next_face; next_request = i.next_request; next_reply = i.next_reply; stores = i.stores; spent = i.spent } in
    let asks = ask_call i.asker key target now in
    let asked = c.in_ok-asked.ensures ∙ (λ j. asked_of (c.as_slice-stores.ensures j) (c.as_slice.ensures j)) ∙ ap (asked_of i.stores) c.in_ok-handed.ensures.handed in
    let answers = c.in_ok-answers.ensures ∙ (λ j. answers_of (c.as_slice-stores.ensures j) key (c.as_slice-2.ensures j)) ∙ ap (answers_of i.stores key) asked in
    let replied = c.as_slice-3.ensures ∙ answers in
    let ended = c.as_slice-4.ensures ∙ asked in
    let after = after_whole i.gateway.state c.request.new.gateway.state c.reply_all.new.gateway.state c.end_all.new.gateway.state asks (reply_calls i.next_reply c.as_slice-3.result.now) (map end_call c.as_slice-4.result.now)
    c.in_ok-handed.ensures.after c.in_ok-reply_all.ensures.after c.in_ok-end_all.ensures.after
    ∙ (λ j. state_after i.gateway.state (asks ∷ (reply_calls i.next_reply (replied j) ++ map end_call (ended j)))) in
    let next = c.len.ensures ∙ ap length answers in
    let free : get_refusal key b ≡ None = ap (get_refusal key) c.self.view_is ∙ c.requires.free in
    let left : ◌≡◌ {A = BusState} (record { gateway = c.end_all.new.gateway.state; asker = i.asker; next_face = i.next_face; next_request = i.next_request + 1; next_reply = i.next_reply + c.len.result; stores = i.stores; spent = false }) (after_get b key target now) =
    λ j. record { gateway = after j; asker = i.asker; next_face = i.next_face; next_request = i.next_request + 1; next_reply = i.next_reply + next j; stores = i.stores; spent = sym (not_spent b key free) j } in
    left ∙ ap (λ x. after_get x key target now) c.self.view_is

pub returns-clause-answered : goal.returns-clause-answered
returns-clause-answered c =
    let key = c.args.key.now in
    let bus : IsBus c.args.self.now = subst IsBus c.self.view_is c.self.invariant in
    let keyed : is_key key ≡ true = ap is_key (sym c.as_str-text.ensures.text) ∙ c.as_str-text.ensures.key in
    subst (IsAnswered key c.args.target c.args.self.now) (sym (returns-clause-ok c)) (answered c.args.self.now bus key keyed c.args.target c.args.now c.requires.free)

pub returns-clause-all : goal.returns-clause-all
returns-clause-all c =
    let key = c.args.key.now in
    let bus : IsBus c.args.self.now = subst IsBus c.self.view_is c.self.invariant in
    let keyed : is_key key ≡ true = ap is_key (sym c.as_str-text.ensures.text) ∙ c.as_str-text.ensures.key in
    λ e. ap (λ (x : Got). x.replies) (returns-clause-ok c) ∙ answered_all c.args.self.now bus key keyed c.args.target c.args.now c.requires.free e

pub returns-clause-ended : goal.returns-clause-ended
returns-clause-ended c =
    let key = c.args.key.now in
    let bus : IsBus c.args.self.now = subst IsBus c.self.view_is c.self.invariant in
    let keyed : is_key key ≡ true = ap is_key (sym c.as_str-text.ensures.text) ∙ c.as_str-text.ensures.key in
    subst IsServed (sym (returns-clause-new c)) (got_served c.args.self.now bus key keyed c.args.target c.args.now c.requires.free)
