use Rattle.std.proofs.Common.{◌≡◌, ◌∙◌, ◌++◌, ℕ, ◌<◌, false, true, not, List, length, subst, sym, ap, arith, length-append}
use Rattle.std.specs.Prelude.{◌&&◌}
use Rattle.std.specs.Option.{option_map_or}
use Rattle.zq_names.specs.Texts.{nonwild}
use Rattle.zq_machine.specs.Handing.{Handed}
use Rattle.zq_tables.specs.Naming.{change_naming, with_told_number}
use Rattle.zq_key.specs.Key.{is_key}
use Rattle.zq_tables.proofs.Choosing.{nonwild_key}
use Rattle.zq_machine.specs.declared.face.OpenFace.{OpenFace}
use Rattle.zq_machine.specs.State.{at}
use Rattle.zq_machine.specs.Writing.{numbers_region}
use Rattle.zq_egress.specs.Telling.{asked_number, handed_declare, untold}
use Rattle.zq_egress.proofs.Telling.{key_is, messages_of, pushed, told_messages, told_names, untold_behind, untold_messages}
use Rattle.zq_egress.proofs.tell.tell_key.Goals as goal

pub may_number-may-requires : goal.may_number-may-requires
may_number-may-requires g c some =
    let text = c.as_str-text.ensures in
    let part = c.as_str.ensures ∙ c.in_ok-part.ensures ∙ c.nonwild.ensures ∙ ap nonwild text in
    subst (λ (p : List ℕ). is_key p ≡ true) (sym part) (nonwild_key c.args.telling.now.key c.requires.valid (subst (λ (p : List ℕ). 0 < length p) part some))

pub returns-clause-messages : goal.returns-clause-messages
returns-clause-messages g c m same alike =
    let old = c.args.handed.now.items in
    let t = c.args.telling.now in
    let d = c.in_ok-key.key in
    let names = c.args.names.now in
    let text = c.as_str-text.ensures in
    let part = c.as_str.ensures ∙ c.in_ok-part.ensures ∙ c.nonwild.ensures ∙ ap nonwild text in
    let may =
    c.may_number-may.ensures
    ∙ ap (λ (p : List ℕ). not c.is_local-local.result && asked_number (option_map_or (λ (o : OpenFace). numbers_region o.region) (at t.face.0 c.args.faces.now.entries) false) p (g.K.WantsKeys.keyed c.args.keyed.now t.face.0 p)) part in
    let key = key_is m c.args.faces.now.entries (g.K.WantsKeys.keyed c.args.keyed.now) t names d c.is_local-local.result c.may_number-may.result c.as_str-text.result.now same alike c.is_local-local.ensures may text c.in_ok-key.ensures.key in
    pushed old c.reserve.new.self.items c.push_number.new.handed.items c.push_reserved.new.self.items c.args.mark t d c.in_ok-part.part c.handed_declare.result c.in_ok-reserve.ensures.items c.push_number.ensures.items
    (c.in_ok-part.ensures ∙ c.nonwild.ensures ∙ ap nonwild text) (c.handed_declare.ensures ∙ ap (handed_declare t.face) c.key_declare.ensures) c.push_reserved.ensures.items
    ∙ ap (λ (hs : List Handed). old ++ hs) (sym (told_messages m c.args.mark t names d c.requires.keyed key))

pub returns-clause-names : goal.returns-clause-names
returns-clause-names g c m same alike =
    let old = c.args.handed.now.items in
    let t = c.args.telling.now in
    let d = c.in_ok-key.key in
    let names = c.args.names.now in
    let text = c.as_str-text.ensures in
    let part = c.as_str.ensures ∙ c.in_ok-part.ensures ∙ c.nonwild.ensures ∙ ap nonwild text in
    let may =
    c.may_number-may.ensures
    ∙ ap (λ (p : List ℕ). not c.is_local-local.result && asked_number (option_map_or (λ (o : OpenFace). numbers_region o.region) (at t.face.0 c.args.faces.now.entries) false) p (g.K.WantsKeys.keyed c.args.keyed.now t.face.0 p)) part in
    let key = key_is m c.args.faces.now.entries (g.K.WantsKeys.keyed c.args.keyed.now) t names d c.is_local-local.result c.may_number-may.result c.as_str-text.result.now same alike c.is_local-local.ensures may text c.in_ok-key.ensures.key in
    c.in_ok-key.ensures.ok
    ∙ ap (λ (x : List ℕ). change_naming t.face.0 (with_told_number x d.declared) names) text
    ∙ sym (told_names m c.args.mark t names d c.requires.keyed key)

pub returns-clause-longer : goal.returns-clause-longer
returns-clause-longer g c =
    let old = c.args.handed.now.items in
    let t = c.args.telling.now in
    let d = c.in_ok-key.key in
    let text = c.as_str-text.ensures in
    let all = pushed old c.reserve.new.self.items c.push_number.new.handed.items c.push_reserved.new.self.items c.args.mark t d c.in_ok-part.part c.handed_declare.result c.in_ok-reserve.ensures.items c.push_number.ensures.items
    (c.in_ok-part.ensures ∙ c.nonwild.ensures ∙ ap nonwild text) (c.handed_declare.ensures ∙ ap (handed_declare t.face) c.key_declare.ensures) c.push_reserved.ensures.items in
    let long = ap length all ∙ length-append old (messages_of c.args.mark t d) in
    omega (arith, long)

pub returns-clause-back : goal.returns-clause-back
returns-clause-back g c first le =
    let old = c.args.handed.now.items in
    let t = c.args.telling.now in
    let d = c.in_ok-key.key in
    let names = c.args.names.now in
    let text = c.as_str-text.ensures in
    let all = pushed old c.reserve.new.self.items c.push_number.new.handed.items c.push_reserved.new.self.items c.args.mark t d c.in_ok-part.part c.handed_declare.result c.in_ok-reserve.ensures.items c.push_number.ensures.items
    (c.in_ok-part.ensures ∙ c.nonwild.ensures ∙ ap nonwild text) (c.handed_declare.ensures ∙ ap (handed_declare t.face) c.key_declare.ensures) c.push_reserved.ensures.items in
    let new = c.in_ok-key.ensures.ok ∙ ap (λ (x : List ℕ). change_naming t.face.0 (with_told_number x d.declared) names) text in
    untold_behind old (messages_of c.args.mark t d) c.push_reserved.new.self.items names c.declared.new.self first le all (ap (untold (messages_of c.args.mark t d)) new ∙ untold_messages c.args.mark t d names c.in_ok-key.ensures.fresh)
