-- Where the plain keys lie that may meet a key: behind its first chunks, if these are plain.
use Rattle.std.proofs.Common.{◌≡◌, ◌∙◌, ℕ, ◌==◌, Bool, true, false, cond, List, [], ◌∷◌, ◌++◌, refl, sym, ap, subst, map, filter, append_assoc, arith}
use Rattle.std.specs.Prelude.{◌&&◌, String}
use Rattle.std.specs.List.{join_with_byte, list_all, onto_first}
use Rattle.std.specs.BTreeMap.Range.{entries_between}
use Rattle.std.specs.Ordering.{is_le, nat_cmp}
use Rattle.std.specs.String.{string_bytes, string_cmp}
use Rattle.std.specs.declared.alloc.Global.{Global}
use Rattle.std.specs.declared.cmp.Ordering.{Ordering}
use Rattle.std.specs.declared.cmp.Ordering.TheVariants.{Less, Equal, Greater}
use Rattle.std.specs.declared.ops.Bound.TheVariants.{Included, Excluded}
use Rattle.std.proofs.lemmas.Bool.{and_parts, false≢true}
use Rattle.std.proofs.lemmas.Cmp.{ranked}
use Rattle.std.proofs.lemmas.Slice.Eq.{bytes_eq-Decides}
use Rattle.std.proofs.lemmas.List.Splits.{join_with_byte-slice_split}
use Rattle.zq_index.specs.Texts.{text_cmp, texts_of}
use Rattle.zq_key.specs.Match.{meets_by}
use Rattle.zq_key.specs.Key.{chunk_meets, chunks, intersects, is_plain, is_plain_chunk, is_stars, is_verbatim}
use Rattle.zq_key.proofs.Apart.{HasFirst, has_first}
use Rattle.zq_key.proofs.Plain.{chunk_facts, intersects-plain, plain-all, plain-chunk_meets, plain-stars}
use Rattle.zq_store.specs.Held.{Pairs, are_plain, meeting}
use Rattle.zq_store.specs.Pair.{pair_of}
use Rattle.zq_store.specs.declared.held.Pair.{Pair}
use Rattle.zq_store.specs.Span.{IsSpan, lies_in}

-- ---- chunks

-- the list begins with another
abbrev Begins : List (List ℕ) → List (List ℕ) → Type 0
Begins hs ts = (more : List (List ℕ)) × (ts ≡ hs ++ more)

-- plain chunks that meet others, of which the first are plain, begin with these
plain_front : (hs ts gs : List (List ℕ)) → list_all is_plain_chunk hs ≡ true → list_all is_plain_chunk ts ≡ true → meets_by is_stars is_verbatim chunk_meets ts (hs ++ gs) ≡ true → Begins hs ts
unfolding meets_by
plain_front [] ts gs h k m = (ts, refl)
plain_front (x ∷ hs) [] gs h k m =
    let p = and_parts (is_plain_chunk x) (list_all is_plain_chunk hs) h in
    absurd (false≢true (rw (plain-stars x ((chunk_facts x p.0).1)) at m))
plain_front (x ∷ hs) (t ∷ ts) gs h k m =
    let p = and_parts (is_plain_chunk x) (list_all is_plain_chunk hs) h in
    let q = and_parts (is_plain_chunk t) (list_all is_plain_chunk ts) k in
    let both = and_parts (chunk_meets t x) (meets_by is_stars is_verbatim chunk_meets ts (hs ++ gs)) (rw (plain-stars x ((chunk_facts x p.0).1), plain-stars t ((chunk_facts t q.0).1)) at m) in
    let same : t ≡ x = (bytes_eq-Decides t x).0 (sym (plain-chunk_meets t x q.0 p.0) ∙ both.0) in
    let deeper = plain_front hs ts gs p.1 q.1 both.1 in
    (deeper.0, λ j. same j ∷ deeper.1 j)

-- the chunks of a text, a slash and another text
chunks_behind : (f rest : List ℕ) → chunks (f ++ 47 ∷ rest) ≡ chunks f ++ chunks rest
chunks_behind [] rest = refl
chunks_behind (x ∷ f) rest = at (x == 47) (has_first f) (chunks_behind f rest)
  where
    at : (b : Bool) → HasFirst f → chunks (f ++ 47 ∷ rest) ≡ chunks f ++ chunks rest
        → cond b ([] ∷ chunks (f ++ 47 ∷ rest)) (onto_first x (chunks (f ++ 47 ∷ rest))) ≡ cond b ([] ∷ chunks f) (onto_first x (chunks f)) ++ chunks rest
    at true first ih = ap (λ l. [] ∷ l) ih
    at false (h, hs, is) ih = ap (onto_first x) (ih ∙ ap (λ l. l ++ chunks rest) is) ∙ ap (λ l. onto_first x l ++ chunks rest) (sym is)

-- texts in a row, a byte between each two
joined : (c : ℕ) (h : List ℕ) (hs : List (List ℕ)) (m : List ℕ) (ms : List (List ℕ)) → join_with_byte c ((h ∷ hs) ++ m ∷ ms) ≡ join_with_byte c (h ∷ hs) ++ c ∷ join_with_byte c (m ∷ ms)
joined c h [] m ms = refl
joined c h (k ∷ hs) m ms = ap (λ l. h ++ c ∷ l) (joined c k hs m ms) ∙ again h (join_with_byte c (k ∷ hs)) (join_with_byte c (m ∷ ms))
  where
    again : (a b d : List ℕ) → a ++ c ∷ (b ++ c ∷ d) ≡ (a ++ c ∷ b) ++ c ∷ d
    again [] b d = refl
    again (x ∷ a) b d = ap (λ l. x ∷ l) (again a b d)

-- ---- texts in order

itself : (x : ℕ) → nat_cmp x x ≡ Equal
itself x = at (nat_cmp x x) refl
  where
    at : (o : Ordering) → o ≡ nat_cmp x x → o ≡ Equal
    at Less is = absurd (omega (arith, ranked x x Less is))
    at Equal is = refl
    at Greater is = absurd (omega (arith, ranked x x Greater is))

not_above : (f r : List ℕ) → is_le (text_cmp f (f ++ r)) ≡ true
not_above [] [] = refl
not_above [] (y ∷ r) = refl
not_above (x ∷ f) r = rw (itself x) (not_above f r)

longer : (f : List ℕ) (c : ℕ) → text_cmp f (f ++ c ∷ []) ≡ Less
longer [] c = refl
longer (x ∷ f) c = rw (itself x) (longer f c)

end_above : (f : List ℕ) (c : ℕ) → text_cmp (f ++ c ∷ []) f ≡ Greater
end_above [] c = refl
end_above (x ∷ f) c = rw (itself x) (end_above f c)

end_beyond : (f more : List ℕ) → text_cmp (f ++ 48 ∷ []) (f ++ 47 ∷ more) ≡ Greater
end_beyond [] more = refl
end_beyond (x ∷ f) more = rw (itself x) (end_beyond f more)

-- ---- spans

lies_itself : (f : List ℕ) (c : ℕ) → lies_in f (f ++ c ∷ []) f ≡ true
lies_itself f c = let above : is_le (text_cmp f f) ≡ true = at f in rw (above, end_above f c) refl
  where
    at : (f : List ℕ) → is_le (text_cmp f f) ≡ true
    at [] = refl
    at (x ∷ f) = rw (itself x) (at f)

lies_behind : (f more : List ℕ) → lies_in f (f ++ 48 ∷ []) (f ++ 47 ∷ more) ≡ true
lies_behind f more = rw (not_above f (47 ∷ more), end_beyond f more) refl

-- a plain key is all that it meets
pub span_alone : (key : List ℕ) → is_plain key ≡ true → IsSpan key key (key ++ 0 ∷ [])
span_alone key plain = record {
  forward = longer key 0;
  within = λ t is m. let same : t ≡ key = (bytes_eq-Decides t key).0 (sym (intersects-plain t key is plain) ∙ m) in subst (λ s. lies_in key (key ++ 0 ∷ []) s ≡ true) (sym same) (lies_itself key 0);
}

-- a text whose chunks begin with those of another is the other, or goes on by a slash
goes_on : (f t : List ℕ) → Begins (chunks f) (chunks t) → lies_in f (f ++ 48 ∷ []) t ≡ true
goes_on f t (more, is) = at more (has_first f) (sym (join_with_byte-slice_split 47 t) ∙ ap (join_with_byte 47) is)
  where
    at : (more : List (List ℕ)) → HasFirst f → t ≡ join_with_byte 47 (chunks f ++ more) → lies_in f (f ++ 48 ∷ []) t ≡ true
    at [] (h, hs, first) made =
        let same : t ≡ f = made ∙ ap (join_with_byte 47) (nothing (chunks f)) ∙ join_with_byte-slice_split 47 f in
        subst (λ s. lies_in f (f ++ 48 ∷ []) s ≡ true) (sym same) (lies_itself f 48)
      where
        nothing : (l : List (List ℕ)) → l ++ [] ≡ l
        nothing [] = refl
        nothing (x ∷ l) = ap (λ m. x ∷ m) (nothing l)
    at (m ∷ ms) (h, hs, first) made =
        let rest = join_with_byte 47 (m ∷ ms) in
        let whole : join_with_byte 47 (chunks f ++ m ∷ ms) ≡ f ++ 47 ∷ rest
        = ap (λ l. join_with_byte 47 (l ++ m ∷ ms)) first ∙ joined 47 h hs m ms ∙ ap (λ l. join_with_byte 47 l ++ 47 ∷ rest) (sym first) ∙ ap (λ l. l ++ 47 ∷ rest) (join_with_byte-slice_split 47 f) in
        subst (λ s. lies_in f (f ++ 48 ∷ []) s ≡ true) (sym (made ∙ whole)) (lies_behind f rest)

-- a key whose first chunks are plain meets those that begin with these
pub span_behind : (key f rest : List ℕ) → is_plain f ≡ true → key ≡ f ++ 47 ∷ rest → IsSpan key f (f ++ 48 ∷ [])
unfolding intersects
span_behind key f rest plain is = record {
  forward = longer f 48;
  within = λ t tame m. goes_on f t (plain_front (chunks f) (chunks t) (chunks rest) (plain-all f plain) (plain-all t tame)
      (subst (λ l. meets_by is_stars is_verbatim chunk_meets (chunks t) l ≡ true) (ap chunks is ∙ chunks_behind f rest) m));
}

-- the same of equal texts
pub span_as : (key f g from to : List ℕ) → from ≡ f → to ≡ g → IsSpan key f g → IsSpan key from to
span_as key f g from to e k span = record {
  forward = (λ j. text_cmp (e j) (k j)) ∙ span.forward;
  within = λ t tame m. (λ j. lies_in (e j) (k j) t) ∙ span.within t tame m;
}

-- ---- pairs

-- the pairs that lie in a span
abbrev pub lying : List ℕ → List ℕ → Pairs → Pairs
lying from to ps = filter (λ p. lies_in from to p.0) ps

pub lying_plain : (from to : List ℕ) (ps : Pairs) → are_plain ps ≡ true → are_plain (lying from to ps) ≡ true
lying_plain from to [] h = refl
lying_plain from to (p ∷ ps) h =
    let both = and_parts (is_plain p.0) (are_plain ps) h in
    at (lies_in from to p.0) both.0 (lying_plain from to ps both.1)
  where
    at : (b : Bool) → is_plain p.0 ≡ true → are_plain (lying from to ps) ≡ true → are_plain (cond b (p ∷ lying from to ps) (lying from to ps)) ≡ true
    at true one more = λ j. one j && more j
    at false one more = more

-- all pairs that meet the key lie in a span of it
pub meeting_lying : (key from to : List ℕ) (ps : Pairs) → IsSpan key from to → are_plain ps ≡ true → meeting key (lying from to ps) ≡ meeting key ps
meeting_lying key from to [] span h = refl
meeting_lying key from to (p ∷ ps) span h =
    let both = and_parts (is_plain p.0) (are_plain ps) h in
    at (lies_in from to p.0) refl (intersects p.0 key) refl (span.within p.0 both.0) (meeting_lying key from to ps span both.1)
  where
    at : (b : Bool) → lies_in from to p.0 ≡ b → (c : Bool) → intersects p.0 key ≡ c → (intersects p.0 key ≡ true → lies_in from to p.0 ≡ true)
        → meeting key (lying from to ps) ≡ meeting key ps
        → meeting key (cond b (p ∷ lying from to ps) (lying from to ps)) ≡ cond (intersects p.0 key) (p ∷ meeting key ps) (meeting key ps)
    at true lies c meets inside ih = ap (λ l. cond (intersects p.0 key) (p ∷ l) l) ih
    at false lies true meets inside ih = absurd (false≢true (sym lies ∙ inside meets))
    at false lies false meets inside ih = rw meets ih

-- a part of a map by its strings
pub texts_lying : {X : Type 0} (from to : String Global) (es : List (String Global × X))
    → texts_of (entries_between string_cmp (Included from) (Excluded to) es) ≡ filter (λ p. lies_in (string_bytes from) (string_bytes to) p.0) (texts_of es)
texts_lying from to [] = refl
texts_lying from to (e ∷ es) = at (lies_in (string_bytes from) (string_bytes to) (string_bytes e.0)) (texts_lying from to es)
  where
    at : (b : Bool) → texts_of (entries_between string_cmp (Included from) (Excluded to) es) ≡ filter (λ p. lies_in (string_bytes from) (string_bytes to) p.0) (texts_of es)
        → texts_of (cond b (e ∷ entries_between string_cmp (Included from) (Excluded to) es) (entries_between string_cmp (Included from) (Excluded to) es))
        ≡ cond b ((string_bytes e.0, e.1) ∷ filter (λ p. lies_in (string_bytes from) (string_bytes to) p.0) (texts_of es)) (filter (λ p. lies_in (string_bytes from) (string_bytes to) p.0) (texts_of es))
    at true ih = ap (λ l. (string_bytes e.0, e.1) ∷ l) ih
    at false ih = ih

-- ---- pairs, one after another

pub next_meeting : (key : List ℕ) (found : List Pair) (p : List ℕ × List ℕ) (ps : Pairs)
    → (found ++ map pair_of (meeting key (p ∷ []))) ++ map pair_of (meeting key ps) ≡ found ++ map pair_of (meeting key (p ∷ ps))
next_meeting key found p ps = at (intersects p.0 key)
  where
    at : (b : Bool) → (found ++ map pair_of (cond b (p ∷ []) [])) ++ map pair_of (meeting key ps) ≡ found ++ map pair_of (cond b (p ∷ meeting key ps) (meeting key ps))
    at true = append_assoc found (pair_of p ∷ []) (map pair_of (meeting key ps))
    at false = append_assoc found [] (map pair_of (meeting key ps))
