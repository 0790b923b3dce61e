use Rattle.std.specs.Prelude.{option_copied}
use Rattle.std.proofs.Common.{◌≡◌, ◌∙◌, refl, sym, ap, subst, ℕ, ◌++◌, List, [], fold, Option, Some}
use Rattle.std.specs.BTreeSet.{insert_key}
use Rattle.zq_index.specs.Texts.{text_cmp}
use Rattle.zq_machine.specs.Neighbours.{looked_over}
use Rattle.zq_strategy.specs.declared.network.Network.{Network}
use Rattle.zq_strategy.specs.declared.network.Telling.{Telling as TreeTelling}
use Rattle.zq_message.specs.declared.message.Zid.{Zid}
use Rattle.zq_strategy.specs.Entries.{is_one_of, keys_by}
use Rattle.zq_strategy.specs.Routers.{losing, networked}
use Rattle.zq_strategy.specs.State.{HatState}
use Rattle.zq_machine.specs.Deciding.{accepted}
use Rattle.zq_machine.specs.State.{State, change_hat, hat_at}
use Rattle.zq_machine.specs.Trees.{all_own_told, networked_told}
use Rattle.zq_machine.specs.TextCalls.{networking}
use Rattle.zq_gateway.proofs.Seated.{each_of, reached_in_place}
use Rattle.zq_gateway.specs.Gathering.{Gathers}
use Rattle.zq_gateway.specs.Making.{IsReached, Settles}
use Rattle.std.specs.Option.{is_some, option_map_or}
use Rattle.std.proofs.lemmas.Option.{same_Some}
use Rattle.zq_gateway.proofs.Elsewhere.{beside, beside_at}
use Rattle.zq_gateway.proofs.Networked.{network_fits, network_gathers, network_keys}
use Rattle.zq_gateway.proofs.tables.Tables.set_network.Goals as goal

pub dues_on_all-requires-clause-keys : goal.dues_on_all-requires-clause-keys
dues_on_all-requires-clause-keys c =
    let s : State = c.args.self.now in
    let i = c.self.inside in
    let r = c.args.region in
    let net : Network = c.in_ok-net.net in
    let hat : HatState = c.in-Some.hat.now in
    let same : i.hats ≡ s.core.hats = ap (λ (x : State). x.core.hats) c.self.view_is in
    let there : hat_at r i.hats ≡ Some hat = sym c.hat_at.ensures ∙ ap option_copied c.in-Some.is in
    let lost : c.in_ok-keys.keys ≡ losing net hat = c.in_ok-keys.ensures ∙ ap (λ (ids : List Zid). keys_by (is_one_of ids) hat.entries) c.as_slice-2.ensures ∙ c.in_ok-gone.ensures.losing in
    network_keys s c.requires r net hat (ap (hat_at r) (sym same) ∙ there) c.as_slice-3.result.now (c.as_slice-3.ensures ∙ lost)

pub dues_on_all-requires-clause-seated : goal.dues_on_all-requires-clause-seated
dues_on_all-requires-clause-seated c = reached_in_place _ (subst IsReached (sym c.self.view_is) c.requires)

pub put_network-requires-clause-there : goal.put_network-requires-clause-there
put_network-requires-clause-there c =
    let i = c.self.inside in
    let same : i.hats ≡ c.args.self.now.core.hats = ap (λ (x : State). x.core.hats) c.self.view_is in
    let there : hat_at c.args.region i.hats ≡ Some c.in-Some.hat.now = sym c.hat_at.ensures ∙ ap option_copied c.in-Some.is in
    ap is_some (ap (hat_at c.args.region) (sym same) ∙ there)

pub put_network-requires-clause-keys : goal.put_network-requires-clause-keys
put_network-requires-clause-keys c h at =
    let s : State = c.args.self.now in
    let i = c.self.inside in
    let r = c.args.region in
    let net : Network = c.in_ok-net.net in
    let hat : HatState = c.in-Some.hat.now in
    let same : i.hats ≡ s.core.hats = ap (λ (x : State). x.core.hats) c.self.view_is in
    let there : hat_at r i.hats ≡ Some hat = sym c.hat_at.ensures ∙ ap option_copied c.in-Some.is in
    let lost : c.in_ok-keys.keys ≡ losing net hat = c.in_ok-keys.ensures ∙ ap (λ (ids : List Zid). keys_by (is_one_of ids) hat.entries) c.as_slice-2.ensures ∙ c.in_ok-gone.ensures.losing in
    lost ∙ ap (losing net) (same_Some _ _ (sym there ∙ ap (hat_at r) same ∙ at)) ∙ ap (λ (n : Network). losing n h) (sym c.in_ok-net-2.ensures.net)

pub put_network-requires-clause-found : goal.put_network-requires-clause-found
put_network-requires-clause-found c =
    let s : State = c.args.self.now in
    let i = c.self.inside in
    let v = c.self.view_is in
    let r = c.args.region in
    let net : Network = c.in_ok-net.net in
    let hat : HatState = c.in-Some.hat.now in
    let same : i.hats ≡ s.core.hats = ap (λ (x : State). x.core.hats) v in
    let there : hat_at r i.hats ≡ Some hat = sym c.hat_at.ensures ∙ ap option_copied c.in-Some.is in
    let tree : c.in_ok-told.told ≡ networked_told r i.hats (change_hat r (networked net) i.hats) = c.in_ok-told.ensures in
    let told : List TreeTelling = c.tell_losses.new.told in
    let all : told ≡ c.in_ok-told.told ++ all_own_told i.hats (change_hat r (networked net) i.hats) (losing net hat) = c.in_ok-net-2.ensures.told in
    let lost : c.in_ok-keys.keys ≡ losing net hat = c.in_ok-keys.ensures ∙ ap (λ (ids : List Zid). keys_by (is_one_of ids) hat.entries) c.as_slice-2.ensures ∙ c.in_ok-gone.ensures.losing in
    let dues = c.in_ok-dues.dues in
    let changed = λ (key : List ℕ). ap (λ (n : Network). change_hat r (networked n) i.hats) c.in_ok-net-2.ensures.net ∙ ap (change_hat r (networked net)) same in
    let apart = beside_at (accepted s.core (networking r net)) same (ap (fold (insert_key text_cmp) []) (c.as_slice-3.ensures ∙ lost)) (beside s c.requires (networking r net) (network_fits s r net (ap is_some (ap (hat_at r) (sym same) ∙ there))) (fold (insert_key text_cmp) [] (losing net hat)) (λ f. ap (λ (o : Option HatState). fold (insert_key text_cmp) [] (option_map_or (losing net) o [])) (ap (hat_at r) (sym same) ∙ there)) refl refl (λ f o on. on)) in
    let dues_are =
    c.in_ok-dues.ensures (accepted s.core (networking r net)) (sym (ap (λ (x : State). x.core.faces) v)) (each_of changed c.as_slice-3.result.now) apart
    ∙ ap (λ (ks : List (List ℕ)). looked_over (accepted s.core (networking r net)) i.interests (fold (insert_key text_cmp) [] ks)) (c.as_slice-3.ensures ∙ lost) in
    subst (λ (n : Network). Gathers s.core (networking r n) s.core.ears dues told) (sym c.in_ok-net-2.ensures.net)
    (network_gathers s r net i.hats same hat there c.in_ok-told.told told tree all s.core.ears refl i.interests (ap (λ (x : State). x.core.interests) v) dues dues_are)

pub returns : goal.returns
returns c =
    subst (λ (n : Network). Settles c.args.self.now c.put_network.new.self (networking c.args.region n) c.put_network.result) (c.in_ok-net-2.ensures.net ∙ c.in_ok-net.ensures ∙ c.in_ok-copy.ensures) c.put_network.ensures
