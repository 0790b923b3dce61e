use Rattle.std.proofs.Common.{◌∙◌, [], refl, ap}
use Rattle.zq_message.specs.declared.message.Mapping.TheVariants.{Sender, Receiver}
use Rattle.zq_tables.specs.Holding.{without_keys}
use Rattle.zq_tables.specs.Naming.{FaceKeys, no_keys, no_names}
use Rattle.zq_tables.specs.declared.holder.Holder.TheVariants.{Number, Queryable, Interest}
use Rattle.zq_tables.proofs.Emptied.{changed, changed_twice}
use Rattle.zq_tables.proofs.naming.Naming.give_up.Goals as goal

-- without numbers of either side
abbrev unnumbered : FaceKeys → FaceKeys
unnumbered n = record n { numbers = no_names }

-- and without queryables
abbrev unqueried : FaceKeys → FaceKeys
unqueried n = record n { numbers = no_names; queryables = [] }

pub returns : goal.returns
returns c =
    let face = c.args.face.0 in
    let numbers =
    c.release_all-2.ensures
    ∙ ap (changed face (without_keys (Number Receiver))) c.release_all.ensures
    ∙ changed_twice face (without_keys (Number Sender)) (without_keys (Number Receiver)) unnumbered (λ n. refl) c.args.self.now in
    let queried =
    c.release_all-3.ensures
    ∙ ap (changed face (without_keys Queryable)) numbers
    ∙ changed_twice face unnumbered (without_keys Queryable) unqueried (λ n. refl) c.args.self.now in
    c.release_all-4.ensures ∙ ap (changed face (without_keys Interest)) queried ∙ changed_twice face unqueried (without_keys Interest) (λ _. no_keys) (λ n. refl) c.args.self.now
