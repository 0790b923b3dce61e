use Rattle.std.proofs.Common.{◌∙◌, sym, ap, map, List, ℕ}
use Rattle.std.specs.BTreeSet.{insert_key}
use Rattle.zq_routers.specs.declared.tellings.Said.{Said}
use Rattle.zq_strategy.specs.Tellings.{telling_cmp}
use Rattle.zq_routers.specs.Told.{Slot, telling_of}
use Rattle.zq_routers.proofs.Ordered.{put_again, put_new}
use Rattle.zq_routers.proofs.tellings.Tellings.put.Goals as goal

pub returns-then-contains_key-clause-ok : goal.returns-then-contains_key-clause-ok
returns-then-contains_key-clause-ok c =
    let t = c.args.telling.now in
    let es = c.self.inside.told.entries in
    let slot : Slot = (t.face.0, c.in_ok-key.key, t.node) in
    let said : Said = record { id = t.id; info = t.info } in
    let same = ap (λ (b : List ℕ). record t { key = b }) (c.in_ok-key.ensures.ok ∙ c.as_str.ensures) in
    sym c.self.view_is
    ∙ sym (put_again slot said es c.self.invariant (sym c.contains_key.ensures ∙ c.if-contains_key.true))
    ∙ (λ i. insert_key telling_cmp (c.self.view_is i) (same i))

pub returns-clause-ok : goal.returns-clause-ok
returns-clause-ok c =
    let t = c.args.telling.now in
    let es = c.self.inside.told.entries in
    let slot : Slot = (t.face.0, c.in_ok-key.key, t.node) in
    let said : Said = record { id = t.id; info = t.info } in
    let same = ap (λ (b : List ℕ). record t { key = b }) (c.in_ok-key.ensures.ok ∙ c.as_str.ensures) in
    ap (map telling_of) c.in_ok-insert.ensures.entries
    ∙ sym (put_new slot said es (sym c.contains_key.ensures ∙ c.if-contains_key.false))
    ∙ (λ i. insert_key telling_cmp (c.self.view_is i) (same i))
