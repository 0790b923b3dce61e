-- A get that nothing refuses is answered by the storages that its target picks, leaves nothing open, and keeps what holds of the bus.
use Rattle.std.proofs.Common.{◌≡◌, ◌∙◌, refl, sym, ap, ℕ, ◌+◌, ◌<◌, ◌^◌, Bool, true, false, cond, not, List, Some, None, length}
use Rattle.std.specs.Prelude.{◌==◌, ◌||◌}
use Rattle.std.proofs.lemmas.Bool.{ltb-true}
use Rattle.zq_key.specs.Key.{is_key}
use Rattle.zq_message.specs.declared.message.QueryTarget.{QueryTarget}
use Rattle.zq_message.specs.declared.message.QueryTarget.TheVariants as target
use Rattle.zq_store.specs.Stores.{count_all}
use Rattle.zq_store.specs.Bus.{BusState, IsBus, IsServed}
use Rattle.zq_store.specs.Getting.{after_get, get_answers, get_refusal, got_of, has_replies, has_request}
use Rattle.zq_store.specs.Answered.{IsAnswered, meeting_replies, picked_replies}
use Rattle.zq_store.specs.declared.bus.BusRefusal.TheVariants as refusal
use Rattle.zq_store.proofs.Replying.{all_replies}
use Rattle.zq_store.proofs.Serving.{get_answered, get_served, room_for_all}

-- ---- refusals
get_parts : (spent asks fits : Bool) → cond spent (Some refusal.Spent) (cond (not asks || not fits) (Some refusal.NoFreeId) None) ≡ None → (spent ≡ false) × ((asks ≡ true) × (fits ≡ true))
get_parts true asks fits e = absurd (cc)
get_parts false true true e = (refl, (refl, refl))
get_parts false true false e = absurd (cc)
get_parts false false fits e = absurd (cc)

not_true : (c : Bool) → not c ≡ true → c ≡ false
not_true true e = sym e
not_true false e = refl

pub not_spent : (b : BusState) (key : List ℕ) → get_refusal key b ≡ None → b.spent ≡ false
not_spent b key none = (get_parts b.spent (has_request b) (has_replies key b) none).0

-- ---- a get
module _ (b : BusState) (bus : IsBus b) (key : List ℕ) (is : is_key key ≡ true) (t : QueryTarget) (now : ℕ) (none : get_refusal key b ≡ None) where
  parts : (b.spent ≡ false) × ((has_request b ≡ true) × (has_replies key b ≡ true))
  parts = get_parts b.spent (has_request b) (has_replies key b) none

  served : IsServed b
  served = bus.served parts.0

  fits : (b.next_request + 1 == 2 ^ 64) ≡ false
  fits = not_true (b.next_request + 1 == 2 ^ 64) parts.1.0

  room : b.next_reply + count_all key b.stores < 2 ^ 64
  room = ltb-true (b.next_reply + count_all key b.stores) (2 ^ 64) parts.1.1

  -- the replies have numbers
  pub replies_fit : b.next_reply + length (get_answers b key t now) < 2 ^ 64
  replies_fit = room_for_all b served bus.faces bus.held key is t now fits room

  pub answered : IsAnswered key t b (got_of b key t now)
  answered = get_answered b served bus.faces bus.held key is t now fits room

  -- for the target All these are all pairs that meet the key
  pub answered_all : t ≡ target.All → (got_of b key t now).replies ≡ meeting_replies key b.stores
  answered_all e = answered.replies ∙ ap (λ x. picked_replies key x b.stores) e ∙ all_replies (b.asker.0 + 1) b.stores key bus.faces bus.held

  -- nothing stays open
  pub got_served : IsServed (after_get b key t now)
  got_served = get_served b served bus.faces bus.held key is t now fits room

  pub got_keeps : IsBus (after_get b key t now)
  got_keeps = record { next = bus.next; faces = bus.faces; held = bus.held; served = λ e. got_served }
