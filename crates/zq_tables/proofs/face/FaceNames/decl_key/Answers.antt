use Rattle.std.proofs.Common.{◌≡◌, Bool, Some, List, ℕ, sym, ap, subst, ◌∙◌}
use Rattle.zq_names.specs.Names.{NameEntry, entry_at}
use Rattle.zq_tables.specs.FaceIds.{FaceIds}
use Rattle.zq_tables.specs.FaceTexts.{texts_of, with_declared, declared_key}
use Rattle.zq_tables.specs.declared.decl.DeclKey.{DeclKey}
use Rattle.zq_tables.proofs.Choosing.{IsNew, new_is}
use Rattle.zq_tables.proofs.FaceLemmas.{gives_live, gives_texts, next-texts}
use Rattle.zq_tables.proofs.face.FaceNames.decl_key.Goals as goal

chosen : (names : List NameEntry) (face : FaceIds) (local may : Bool) (t u : List ℕ) (d : DeclKey) (id : ℕ) → u ≡ t → d ≡ declared_key (texts_of names face) local may u → d.declared ≡ Some id → IsNew (texts_of names face) t id
chosen names face local may t u d id same is new =
    let I : List ℕ → Type 0 = λ (x : List ℕ). IsNew (texts_of names face) x id in
    subst I same (new_is (texts_of names face) local may u id (sym (ap (λ (k : DeclKey). k.declared) is) ∙ new))

pub declare_part-requires-clause-next : goal.declare_part-requires-clause-next
declare_part-requires-clause-next c =
    let names = c.args.names.now in
    let face = c.args.self.now in
    sym (next-texts names face) ∙ (chosen names face c.args.local c.args.may (entry_at names c.args.r.0).text c.expr.result.now c.in_ok-key.key c.in-Some.id c.expr.ensures c.in_ok-key.ensures c.in-Some.is).next

pub declare_part-requires-clause-part : goal.declare_part-requires-clause-part
declare_part-requires-clause-part c =
    (chosen c.args.names.now c.args.self.now c.args.local c.args.may (entry_at c.args.names.now c.args.r.0).text c.expr.result.now c.in_ok-key.key c.in-Some.id c.expr.ensures c.in_ok-key.ensures c.in-Some.is).part

pub returns-clause-texts : goal.returns-clause-texts
returns-clause-texts c =
    let names = c.args.names.now in
    let face = c.args.self.now in
    let t = (entry_at names c.args.r.0).text in
    gives_texts names face c.declare_part.new.self t c.in-Some.id c.in_ok-declare_part.ensures.ok
    ∙ ap (with_declared (texts_of names face) t) (sym c.in-Some.is)

pub returns-clause-live : goal.returns-clause-live
returns-clause-live c = gives_live c.args.names.now c.args.self.now c.declare_part.new.self (entry_at c.args.names.now c.args.r.0).text c.in-Some.id c.in_ok-declare_part.ensures.ok c.requires.ids
