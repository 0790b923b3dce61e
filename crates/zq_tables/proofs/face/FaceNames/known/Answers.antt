use Rattle.std.proofs.Common.{◌≡◌, ◌++◌, [], ℕ, List, sym, ap, subst, ◌∙◌}
use Rattle.std.specs.List.{Contains}
use Rattle.zq_names.specs.declared.node.ResourceId.{ResourceId}
use Rattle.zq_names.specs.Names.{NameEntry, HasText, ids, texts, entry_at}
use Rattle.zq_tables.specs.FaceIds.{FaceIds, least_id}
use Rattle.zq_tables.specs.FaceTexts.{texts_of}
use Rattle.zq_tables.proofs.FaceLemmas.{IsOnly, Fine, Fine-texts, known-absent, known-first, known-second, known-neither}
use Rattle.zq_tables.proofs.face.FaceNames.known.Goals as goal

is_only : (names : List NameEntry) (h t : List ℕ) (r : ResourceId) → h ≡ [] → HasText names r (h ++ t) → ((i : ℕ) → Contains (ids names) i → (entry_at names i).text ≡ h ++ t → i ≡ r.0) → IsOnly names r.0 t
is_only names h t r root named only =
    let same : h ++ t ≡ t = ap (λ (x : List ℕ). x ++ t) root in
    record { text = named.text ∙ same; only = λ i live is. only i live (is ∙ sym same) }

of_view : {old new : FaceIds} (r : ℕ) → old ≡ new → least_id old.theirs r ≡ least_id new.theirs r
of_view r e = ap (λ (f : FaceIds). least_id f.theirs r) e

of_view_ours : {old new : FaceIds} (r : ℕ) → old ≡ new → least_id old.ours r ≡ least_id new.ours r
of_view_ours r e = ap (λ (f : FaceIds). least_id f.ours r) e

pub returns-in_default : goal.returns-in_default
returns-in_default c =
    let names = c.args.names.now in
    let t = c.args.text.now in
    let F : FaceIds → Type 0 = λ (f : FaceIds). Fine (texts_of names f) in
    let inside : FaceIds = record { theirs = c.self.inside.theirs; ours = c.self.inside.ours } in
    let fine = subst F c.self.view_is (Fine-texts names inside c.len-theirs.ensures c.len-ours.ensures c.self.invariant.theirs_positive c.self.invariant.ours_positive) in
    let C : List ℕ → Type 0 = λ (x : List ℕ). Contains (texts names) (x ++ t) in
    known-absent names c.args.self.now t c.requires fine (λ has. c.in_default.ensures.absent (subst C (sym c.root.ensures.text) has))

pub returns-in-Some-least_id : goal.returns-in-Some-least_id
returns-in-Some-least_id c =
    let names = c.args.names.now in
    let t = c.args.text.now in
    let F : FaceIds → Type 0 = λ (f : FaceIds). Fine (texts_of names f) in
    let inside : FaceIds = record { theirs = c.self.inside.theirs; ours = c.self.inside.ours } in
    let fine = subst F c.self.view_is (Fine-texts names inside c.len-theirs.ensures c.len-ours.ensures c.self.invariant.theirs_positive c.self.invariant.ours_positive) in
    let r = c.in-Some.node in
    known-first names c.args.self.now t c.requires fine r.0 (is_only names _ t r c.root.ensures.text c.in-Some.ensures.found c.in-Some.ensures.only) c.in-Some-least_id.id (c.in-Some-least_id.ensures ∙ of_view r.0 c.self.view_is)

pub returns-in-Some-least_id-2 : goal.returns-in-Some-least_id-2
returns-in-Some-least_id-2 c =
    let names = c.args.names.now in
    let t = c.args.text.now in
    let F : FaceIds → Type 0 = λ (f : FaceIds). Fine (texts_of names f) in
    let inside : FaceIds = record { theirs = c.self.inside.theirs; ours = c.self.inside.ours } in
    let fine = subst F c.self.view_is (Fine-texts names inside c.len-theirs.ensures c.len-ours.ensures c.self.invariant.theirs_positive c.self.invariant.ours_positive) in
    let r = c.in-Some.node in
    known-second names c.args.self.now t c.requires fine r.0 (is_only names _ t r c.root.ensures.text c.in-Some.ensures.found c.in-Some.ensures.only) c.in-Some-least_id-2.id (c.in_default-least_id.ensures ∙ of_view r.0 c.self.view_is) (c.in-Some-least_id-2.ensures ∙ of_view_ours r.0 c.self.view_is)

pub returns : goal.returns
returns c =
    let names = c.args.names.now in
    let t = c.args.text.now in
    let F : FaceIds → Type 0 = λ (f : FaceIds). Fine (texts_of names f) in
    let inside : FaceIds = record { theirs = c.self.inside.theirs; ours = c.self.inside.ours } in
    let fine = subst F c.self.view_is (Fine-texts names inside c.len-theirs.ensures c.len-ours.ensures c.self.invariant.theirs_positive c.self.invariant.ours_positive) in
    let r = c.in-Some.node in
    known-neither names c.args.self.now t c.requires fine r.0 (is_only names _ t r c.root.ensures.text c.in-Some.ensures.found c.in-Some.ensures.only) (c.in_default-least_id.ensures ∙ of_view r.0 c.self.view_is) (c.in_default-least_id-2.ensures ∙ of_view_ours r.0 c.self.view_is)
