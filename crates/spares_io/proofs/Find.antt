-- Places in a list of files, and what the map of the list holds.
use Rattle.std.proofs.Common.{Option, ◌+◌, drop, ◌&&◌, is_none, is_some, ◌≡◌, ◌∙◌, ap, sym, refl, ℕ, zero, suc, ◌<◌, ◌≤◌, Bool, true, false, nat_lt, List, [], ◌∷◌, ◌++◌, length, get_or, set, cond, true≢false, Some, None, bytes_eq, position, arith}
use Rattle.std.specs.Ordering.{nat_cmp, eq_by_cmp}
use Rattle.std.specs.Cmp.Lexicographic.{slice_cmp, nat_list_cmp_total, bytes_decides}
use Rattle.std.specs.FinMap.{IsAntisymmetric, find, get, remove, same_map, get-from_entries, get-insert, get-remove, from_entries_push, slice_cmp-IsAntisymmetric, nat_cmp-IsAntisymmetric}
use Rattle.std.proofs.lemmas.List.Quantifiers.{position-Some}
use Rattle.std.proofs.lemmas.List.Sums.{fails_before_first}
use Rattle.std.proofs.lemmas.Map.Text.{is_eq-slice_cmp}
use Rattle.std.proofs.lemmas.List.{at_drop_more}
use Rattle.list_laws.proofs.Public.{bytes_same}
use Rattle.spares_io.specs.Memory.{files_of, are_distinct}
use Rattle.spares_io.specs.Shelf.{Files, file_of, with_file}

-- a file of a list: a name with what it holds
abbrev pub Entry : Type 0
Entry = List ℕ × List ℕ

-- the file at a place is the first that has this name
pub record IsPlace (name : List ℕ) (files : List Entry) (place : ℕ) : Type 0 where
  pub below : place < length files
  pub here : (d : Entry) → bytes_eq name (get_or files place d).0 ≡ true
  pub before : (k : ℕ) (d : Entry) → k < place → bytes_eq name (get_or files k d).0 ≡ false

-- no file has this name
abbrev pub IsAbsent : List ℕ → List Entry → Type 0
IsAbsent name files = (k : ℕ) (d : Entry) → k < length files → bytes_eq name (get_or files k d).0 ≡ false

pub IsPlace_position : (name : List ℕ) (files : List Entry) (place : ℕ)
    → position (λ file. bytes_eq name file.0) files ≡ Some place → IsPlace name files place
IsPlace_position name files place e = record {
  below = (position-Some (λ (file : Entry). bytes_eq name file.0) files place ([], []) e).0;
  here = λ d. (position-Some (λ (file : Entry). bytes_eq name file.0) files place d e).1;
  before = λ k d under. (position-Some (λ (file : Entry). bytes_eq name file.0) files place d e).2 k under;
}

all_before : (n m : ℕ) → cond (nat_lt n m) (Some n) None ≡ None → m ≤ n
all_before n m e = grind arith

pub IsAbsent_position : (name : List ℕ) (files : List Entry)
    → position (λ file. bytes_eq name file.0) files ≡ None → IsAbsent name files
IsAbsent_position name files e k d below =
    fails_before_first (λ (file : Entry). bytes_eq name file.0) files k d (omega (arith, below, all_before _ _ e))

next_place : (name : List ℕ) (file : Entry) (files : List Entry) (place : ℕ) → IsPlace name (file ∷ files) (suc place) → IsPlace name files place
next_place name file files place p = record {
  below = omega (arith, p.below);
  here = p.here;
  before = λ k d under. p.before (suc k) d (omega (arith, under));
}

-- a look-up finds the first file that has the name
find_at : (name : List ℕ) (files : List Entry) (place : ℕ) (d : Entry) → IsPlace name files place
    → find (slice_cmp nat_cmp) name files ≡ Some (get_or files place d).1
find_at name [] place d p = absurd (omega (arith, p.below))
find_at name (file ∷ files) zero d p =
    ap (λ b. cond b (Some file.1) (find (slice_cmp nat_cmp) name files)) (is_eq-slice_cmp name file.0 ∙ p.here d)
find_at name (file ∷ files) (suc place) d p =
    ap (λ b. cond b (Some file.1) (find (slice_cmp nat_cmp) name files)) (is_eq-slice_cmp name file.0 ∙ p.before 0 d (omega arith))
    ∙ find_at name files place d (next_place name file files place p)

find_absent : (name : List ℕ) (files : List Entry) → IsAbsent name files → find (slice_cmp nat_cmp) name files ≡ None
find_absent name [] absent = refl
find_absent name (file ∷ files) absent =
    ap (λ b. cond b (Some file.1) (find (slice_cmp nat_cmp) name files)) (is_eq-slice_cmp name file.0 ∙ absent 0 file (omega arith))
    ∙ find_absent name files (λ k d below. absent (suc k) d (omega (arith, below)))

-- the map holds what the first file of the name holds, and nothing where there is none
pub file_of_place : (name : List ℕ) (files : List Entry) (place : ℕ) (d : Entry)
    → position (λ file. bytes_eq name file.0) files ≡ Some place → file_of (files_of files) name ≡ Some (get_or files place d).1
file_of_place name files place d e =
    get-from_entries nat_list_cmp_total files name ∙ find_at name files place d (IsPlace_position name files place e)

-- a name that no file has holds nothing
pub file_of_absent : (name : List ℕ) (files : List Entry)
    → position (λ file. bytes_eq name file.0) files ≡ None → file_of (files_of files) name ≡ None
file_of_absent name files e =
    get-from_entries nat_list_cmp_total files name ∙ find_absent name files (IsAbsent_position name files e)

covered : {A : Type 0} (b : Bool) (x y z : A) → cond b x z ≡ cond b x (cond b y z)
covered true x y z = refl
covered false x y z = refl

swapped : {A : Type 0} (a b : Bool) (x y z : A) → (a ≡ true → b ≡ true → ⊥) → cond a x (cond b y z) ≡ cond b y (cond a x z)
swapped true true x y z apart = absurd (apart refl refl)
swapped true false x y z apart = refl
swapped false b x y z apart = refl

-- no query is both of two names that differ
apart : (name other query : List ℕ) → bytes_eq name other ≡ false
    → eq_by_cmp (slice_cmp nat_cmp) query other ≡ true → eq_by_cmp (slice_cmp nat_cmp) query name ≡ true → ⊥
apart name other query differ is_other is_name =
    let of_other : query ≡ other = bytes_same query other (sym (is_eq-slice_cmp query other) ∙ is_other) in
    let of_name : query ≡ name = bytes_same query name (sym (is_eq-slice_cmp query name) ∙ is_name) in
    true≢false (sym ((bytes_decides name other).1 (sym of_name ∙ of_other)) ∙ differ)

-- with new bytes at the place of a name, a look-up finds them there, and elsewhere what it found before
find_set : (name bytes query : List ℕ) (files : List Entry) (place : ℕ) → IsPlace name files place
    → find (slice_cmp nat_cmp) query (set files place (name, bytes))
    ≡ cond (eq_by_cmp (slice_cmp nat_cmp) query name) (Some bytes) (find (slice_cmp nat_cmp) query files)
find_set name bytes query [] place p = absurd (omega (arith, p.below))
find_set name bytes query (file ∷ files) zero p =
    covered (eq_by_cmp (slice_cmp nat_cmp) query name) (Some bytes) (Some file.1) (find (slice_cmp nat_cmp) query files)
    ∙ ap (λ key. cond (eq_by_cmp (slice_cmp nat_cmp) query name) (Some bytes) (cond (eq_by_cmp (slice_cmp nat_cmp) query key) (Some file.1) (find (slice_cmp nat_cmp) query files)))
    (bytes_same name file.0 (p.here file))
find_set name bytes query (file ∷ files) (suc place) p =
    ap (cond (eq_by_cmp (slice_cmp nat_cmp) query file.0) (Some file.1)) (find_set name bytes query files place (next_place name file files place p))
    ∙ swapped _ _ _ _ _ (apart name file.0 query (p.before 0 file (omega arith)))

names_tie : IsAntisymmetric (slice_cmp nat_cmp)
names_tie = slice_cmp-IsAntisymmetric nat_cmp-IsAntisymmetric

-- to put new bytes at the place of a name is to insert them
pub files_of_set : (name bytes : List ℕ) (files : List Entry) (place : ℕ) (key : List ℕ)
    → position (λ file. bytes_eq name file.0) files ≡ Some place → (d : Entry) → key ≡ (get_or files place d).0
    → files_of (set files place (key, bytes)) ≡ with_file (files_of files) name bytes
files_of_set name bytes files place key e d is =
    let p = IsPlace_position name files place e in
    ap (λ k. files_of (set files place (k, bytes))) (is ∙ sym (bytes_same name _ (p.here d)))
    ∙ same_map nat_list_cmp_total names_tie _ _ (λ query.
    get-from_entries nat_list_cmp_total _ query
    ∙ find_set name bytes query files place p
    ∙ ap (cond (eq_by_cmp (slice_cmp nat_cmp) query name) (Some bytes)) (sym (get-from_entries nat_list_cmp_total files query))
    ∙ sym (get-insert nat_list_cmp_total (files_of files) name bytes query))

-- to add a file of a new name is to insert it
pub files_of_push : (name bytes : List ℕ) (files : List Entry)
    → position (λ file. bytes_eq name file.0) files ≡ None
    → files_of (files ++ (name, bytes) ∷ []) ≡ with_file (files_of files) name bytes
files_of_push name bytes files e =
    from_entries_push nat_list_cmp_total names_tie files name bytes (find_absent name files (IsAbsent_position name files e))

-- what a name holds is gone with the name
pub remove_insert : (files : Files) (name bytes : List ℕ) → remove (with_file files name bytes) name ≡ remove files name
remove_insert files name bytes =
    same_map nat_list_cmp_total names_tie _ _ (λ query.
    get-remove nat_list_cmp_total (with_file files name bytes) name query
    ∙ ap (cond (eq_by_cmp (slice_cmp nat_cmp) query name) None) (get-insert nat_list_cmp_total files name bytes query)
    ∙ sym (covered (eq_by_cmp (slice_cmp nat_cmp) query name) None (Some bytes) (get files query))
    ∙ sym (get-remove nat_list_cmp_total files name query))

-- a list from some place on is distinct where its first name stands nowhere later, and the rest is distinct
pub are_distinct_drop : (files : List Entry) (place : ℕ) (d : Entry) → place < length files
    → are_distinct (drop place files)
    ≡ (is_none (position (λ later. bytes_eq (get_or files place d).0 later.0) (drop (place + 1) files)) && are_distinct (drop (place + 1) files))
are_distinct_drop files place d below = at_drop_more are_distinct files place d below

met : (found : Option ℕ) (rest : Bool) → is_some found ≡ true → (is_none found && rest) ≡ false
met None rest e = absurd (true≢false (sym e))
met (Some place) rest e = refl

unmet : (found : Option ℕ) (rest : Bool) → is_some found ≡ false → (is_none found && rest) ≡ rest
unmet None rest e = refl
unmet (Some place) rest e = absurd (true≢false e)

-- where the name of a file stands again further on, the names aren't distinct
pub are_distinct_met : (files : List Entry) (place : ℕ) (d : Entry) → place < length files
    → is_some (position (λ later. bytes_eq (get_or files place d).0 later.0) (drop (place + 1) files)) ≡ true
    → are_distinct (drop place files) ≡ false
are_distinct_met files place d below e = are_distinct_drop files place d below ∙ met _ _ e

-- where it doesn't, they are distinct exactly where those further on are
pub are_distinct_unmet : (files : List Entry) (place : ℕ) (d : Entry) → place < length files
    → is_some (position (λ later. bytes_eq (get_or files place d).0 later.0) (drop (place + 1) files)) ≡ false
    → are_distinct (drop place files) ≡ are_distinct (drop (place + 1) files)
are_distinct_unmet files place d below e = are_distinct_drop files place d below ∙ unmet _ _ e
