-- At every point of every run the namespaces of faces are plain.
use Rattle.std.proofs.Common.{◌≡◌, sym, subst, ℕ, Bool, true, false, cond, List, Option, Some, None}
use Rattle.std.specs.Prelude.{◌&&◌, ◌==◌}
use Rattle.std.specs.List.{list_all}
use Rattle.std.proofs.lemmas.Bool.{and_parts}
use Rattle.zq_key.specs.Key.{is_key}
use Rattle.zq_namespace.specs.Denied.{IsPlainSpace}
use Rattle.zq_machine.specs.declared.call.Opening.{Opening}
use Rattle.zq_machine.specs.Deciding.{causes, refusal_of, regated}
use Rattle.zq_machine.specs.Gates.{Gate, Gates, gate_at, gate_for, is_sound, is_space, leave_all, space_of, with_given}
use Rattle.zq_machine.specs.Handing.{Handed}
use Rattle.zq_machine.specs.State.{State}
use Rattle.zq_machine.specs.TextCalls.{TextCall, closing, opening}
use Rattle.zq_machine.proofs.Finals.{is_there}
use Rattle.zq_machine.proofs.Gates.{Gated, gate_goes, gate_joins, space_for, space_given, space_left}
use Rattle.zq_machine.proofs.Granted.{all_passed}

-- the namespace of each face that has one is a plain key
abbrev pub ArePlain : Gates → Type 0
ArePlain gates = (q : ℕ) → IsPlainSpace (space_of (gate_at q gates))

-- a sound opening has a plain one
sound_plain : (o : Opening) → is_sound o ≡ true → IsPlainSpace o.namespace
sound_plain o sound = by o.namespace (and_parts (is_space o.namespace) (list_all is_key o.entry_deny) (and_parts (is_space o.namespace && list_all is_key o.entry_deny) (list_all is_key o.exit_deny) sound).0).0
  where
    by : (n : Option (List ℕ)) → is_space n ≡ true → IsPlainSpace n
    by None plain = tt
    by (Some n) plain = plain

pub accepted_plain : (s : State) (x : TextCall) → refusal_of s.core x ≡ None → Gated s.gates s.core.next_face → ArePlain s.gates → ArePlain (regated s x)
accepted_plain s (opening o) h gated plain q = subst (λ (g : Option Gate). IsPlainSpace (space_of g)) (sym (gate_joins s.gates s.core.next_face gated (gate_for o) q)) (by (s.core.next_face == q))
  where
    by : (b : Bool) → IsPlainSpace (space_of (cond b (gate_for o) (gate_at q s.gates)))
    by true = subst IsPlainSpace (sym (space_for o)) (sound_plain o (is_there (is_sound o) (all_passed (causes s.core (opening o)) h).1.0))
    by false = plain q
accepted_plain s (closing face) h gated plain q = subst (λ (g : Option Gate). IsPlainSpace (space_of g)) (sym (gate_goes s.gates s.core.next_face gated face.0 q)) (by (face.0 == q))
  where
    by : (b : Bool) → IsPlainSpace (space_of (cond b None (gate_at q s.gates)))
    by true = tt
    by false = plain q
accepted_plain s x h gated plain q = plain q

-- what gates keep of messages changes no namespace
pub left_plain : (text : List ℕ) (hs : List Handed) (gates : Gates) → ArePlain gates → ArePlain (leave_all text hs gates).gates
left_plain text hs gates plain q = subst IsPlainSpace (sym (space_left q text hs gates)) (plain q)

pub plain_given : (h : Handed) (gates : Gates) → ArePlain gates → ArePlain (with_given h gates)
plain_given h gates plain q = subst IsPlainSpace (sym (space_given q h gates)) (plain q)
