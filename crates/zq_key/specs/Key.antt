-- Key expressions: the chunks of a text, which texts are keys, and how chunks and keys relate.
use Rattle.std.specs.Prelude.{ℕ, Bool, true, false, not, ◌&&◌, ◌||◌, if◌then◌else◌, ◌==◌, List, [], ◌∷◌, Option, Some, None, is_none}
use Rattle.std.specs.List.{slice_split, list_all, list_any}
use Rattle.std.specs.Str.{bytes_eq}
use Rattle.zq_key.specs.Match.{meets_by, covers_by}

-- the pieces between the `/` of a text
abbrev pub chunks : List ℕ → List (List ℕ)
chunks text = slice_split (λ c. c == 47) text

-- the parts of a chunk: its characters, and None for each `$*`
abbrev pub parts : List ℕ → List (Option ℕ)
parts [] = []
parts (c ∷ []) = Some c ∷ []
parts (c ∷ d ∷ rest) = if (c == 36) && (d == 42) then None ∷ parts rest else Some c ∷ parts (d ∷ rest)

-- two characters agree if they are equal; `$*` agrees with nothing
abbrev pub same_part : Option ℕ → Option ℕ → Bool
same_part (Some c) (Some d) = c == d
same_part (Some c) None = false
same_part None d = false

-- whether two lists of parts meet
abbrev pub parts_meet : List (Option ℕ) → List (Option ℕ) → Bool
parts_meet a b = meets_by is_none (λ _. false) same_part a b

-- whether the first list of parts covers the second
abbrev pub parts_cover : List (Option ℕ) → List (Option ℕ) → Bool
parts_cover a b = covers_by is_none (λ _. false) same_part a b

-- whether a chunk begins with `@`
abbrev pub is_verbatim : List ℕ → Bool
is_verbatim [] = false
is_verbatim (c ∷ rest) = c == 64

-- the chunk `*`
abbrev pub is_star : List ℕ → Bool
is_star chunk = bytes_eq chunk (42 ∷ [])

-- the chunk `**`
abbrev pub is_stars : List ℕ → Bool
is_stars chunk = bytes_eq chunk (42 ∷ 42 ∷ [])

-- whether two chunks, neither of them `**`, meet
unfoldable pub chunk_meets : List ℕ → List ℕ → Bool
chunk_meets a b =
    if is_verbatim a || is_verbatim b then bytes_eq a b
    else is_star a || is_star b || parts_meet (parts a) (parts b)

-- whether chunk a covers chunk b, neither of them `**`
unfoldable pub chunk_covers : List ℕ → List ℕ → Bool
chunk_covers a b =
    if is_verbatim a || is_verbatim b then bytes_eq a b
    else is_star a || (not (is_star b) && parts_cover (parts a) (parts b))

-- whether a part is `$*`, or a character that a chunk may have outside `$*`
abbrev pub part_fits : Option ℕ → Bool
part_fits None = true
part_fits (Some c) = not (c == 35 || c == 63 || c == 42 || c == 36)

-- whether no two `$*` are neighbours
abbrev pub runs_apart : List (Option ℕ) → Bool
runs_apart [] = true
runs_apart (Some c ∷ rest) = runs_apart rest
runs_apart (None ∷ []) = true
runs_apart (None ∷ None ∷ rest) = false
runs_apart (None ∷ Some c ∷ rest) = runs_apart rest

-- whether a text without `/` may stand as a chunk
unfoldable pub is_chunk : List ℕ → Bool
is_chunk [] = false
is_chunk (c ∷ rest) =
    let chunk = c ∷ rest in
    is_star chunk || is_stars chunk || (not (bytes_eq chunk (36 ∷ 42 ∷ [])) && list_all part_fits (parts chunk) && runs_apart (parts chunk))

-- whether no `**` stands before `**` or `*`
abbrev pub neighbours_fit : List (List ℕ) → Bool
neighbours_fit [] = true
neighbours_fit (a ∷ []) = true
neighbours_fit (a ∷ b ∷ rest) = not (is_stars a && (is_stars b || is_star b)) && neighbours_fit (b ∷ rest)

-- whether a text is a key: each piece may stand as a chunk, and no `**` stands before `**` or `*`
unfoldable pub is_key : List ℕ → Bool
is_key text = list_all is_chunk (chunks text) && neighbours_fit (chunks text)

-- whether a chunk is neither wild in part nor verbatim
abbrev pub is_plain_chunk : List ℕ → Bool
is_plain_chunk chunk = not (is_verbatim chunk) && not (list_any (λ c. c == 42 || c == 36) chunk)

-- whether a text is a plain key: a key of plain chunks
unfoldable pub is_plain : List ℕ → Bool
is_plain text = is_key text && list_all is_plain_chunk (chunks text)

-- whether two keys intersect
unfoldable pub intersects : List ℕ → List ℕ → Bool
intersects a b = meets_by is_stars is_verbatim chunk_meets (chunks a) (chunks b)

-- whether key a includes key b
unfoldable pub includes : List ℕ → List ℕ → Bool
includes a b = covers_by is_stars is_verbatim chunk_covers (chunks a) (chunks b)
