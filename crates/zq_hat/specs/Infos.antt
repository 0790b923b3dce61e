-- What a region has on each of its keys.
use Rattle.std.specs.Prelude.{ℕ, List, [], filter, fold, Option, option_map}
use Rattle.std.specs.BTreeSet.{insert_key}
use Rattle.std.specs.List.{filter_map}
use Rattle.zq_message.specs.declared.message.QueryableInfoType.{QueryableInfoType}
use Rattle.zq_index.specs.Texts.{text_cmp}
use Rattle.zq_strategy.specs.Kept.{region_info}
use Rattle.zq_strategy.specs.State.{HatState}
use Rattle.zq_strategy.specs.Trees.{region_keys}
use Rattle.zq_interests.specs.Interests.{meets}

-- the keys on which the region has information, each once, in order
abbrev pub info_keys : HatState → List (List ℕ)
info_keys h = fold (insert_key text_cmp) [] (region_keys h)

-- the key with the region's information on it, if there is one
abbrev pub info_on : HatState → List ℕ → Option (List ℕ × QueryableInfoType)
info_on h key = option_map (λ i. (key, i)) (region_info key h)

-- the region's informations on its keys that meet what is asked for
abbrev pub remote_queryables : Option (List ℕ) → HatState → List (List ℕ × QueryableInfoType)
remote_queryables asked h = filter_map (info_on h) (filter (meets asked) (info_keys h))
