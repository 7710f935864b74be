-- Laws of families' points.
use Rattle.std.specs.Prelude.{◌≡◌, ◌≤◌, ℕ, List, All, length}
use Rattle.spares_input.specs.Cases.{CaseRows, IsCase}
use Rattle.family_items.specs.Inputs.{IsLine}
use Rattle.family_points.specs.Points.{ScoreEnds, AreOrdered}
use Rattle.family_points.specs.Vectors.{limits, places, stocks_with, vector_of, vectors, zeros}
use Rattle.family_points.specs.Counts.{choices_of, tables_between}
use Rattle.family_points.specs.Inputs.{FamilyBox, box_points}
use Rattle.family_points.specs.Separation.{separated}

-- the points of all vectors are the sums of the depot's point and a point of each base, for each choice at the depot
abbrev pub Separates : Type 0
Separates =
    (ends : ScoreEnds) (x : FamilyBox) → IsCase x.case → IsLine x.case x.line
    → AreOrdered x.case x.line x.held x.low x.high
    → separated ends x ≡ box_points ends x

-- the choices of a family count its vectors
abbrev pub ChoicesAreVectors : Type 0
ChoicesAreVectors = (c : CaseRows) (l : ℕ) → IsCase c → choices_of c l ≡ length (vectors (zeros c l) (limits c l))

-- a box of a single vector takes few tables
abbrev pub OneVectorTakesFew : Type 0
OneVectorTakesFew = (c : CaseRows) (l : ℕ) (v : List ℕ) → IsCase c → IsLine c l → tables_between c l v v ≤ 144

-- the stocks made of a vector have it at the places of its family
abbrev pub VectorsStand : Type 0
VectorsStand =
    (c : CaseRows) (l : ℕ) (v : List ℕ) → IsCase c → IsLine c l → length v ≡ length (places c l)
    → vector_of c l (stocks_with c l v) ≡ v

-- a list of zeros has zeros at the places of every family
abbrev pub NothingHeld : Type 0
NothingHeld = (c : CaseRows) (l : ℕ) (held : List ℕ) → All (λ n. n ≡ 0) held → vector_of c l held ≡ zeros c l
