-- Bounds and roundings of a few choices, whose numbers were computed apart from the definitions. The one family is a
-- line unit whose depot has room for 2 and whose base has room for 3, at 100 a piece.
use Rattle.std.specs.Prelude.{◌≡◌, ℕ, List, [], ◌∷◌, Some, None, refl}
use Rattle.hull.specs.declared.point.Point.{Point}
use Rattle.marginal_alloc.specs.declared.allocation.Chosen.{Chosen}
use Rattle.marginal_alloc.specs.Choice.{rounding_of}
use Rattle.marginal_alloc.proofs.Told.{bound_at}

abbrev vertex : ℕ → ℕ → ℕ → Point
vertex cost lo hi = record { cost = cost; lo = lo; hi = hi; stocks = [] }

abbrev curves : List (List Point)
curves = (
    vertex 0 844424930131968 844424930131968
    ∷ vertex 100 576963767330647 576963767330649
    ∷ vertex 200 351544046257333 351544046257340
    ∷ vertex 300 189186487776029 189186487776046
    ∷ vertex 400 90208727985009 90208727985080
    ∷ vertex 500 39901707478309 39901707478535
    ∷ [])
    ∷ []

-- no step fits a budget of 0
abbrev nothing : Chosen
nothing = record {
  picks = 0 ∷ [];
  cost = 0;
  price = record { p = 267461162801321; q = 100 };
  critical = Some (record { family = 0; vertex = 1 });
}

bound_of_nothing : bound_at curves 0 nothing.picks nothing.price ≡ 844424930131968
bound_of_nothing = refl

-- the pick's interval is a point, and that of the critical vertex is 2 wide
rounding_of_nothing : rounding_of curves nothing ≡ 3
rounding_of_nothing = refl

-- two steps fit a budget of 250
abbrev two_steps : Chosen
two_steps = record {
  picks = 2 ∷ [];
  cost = 200;
  price = record { p = 162357558481304; q = 100 };
  critical = Some (record { family = 0; vertex = 3 });
}

bound_of_two_steps : bound_at curves 250 two_steps.picks two_steps.price ≡ 270365267016681
bound_of_two_steps = refl

-- 7 at the pick, 17 at the critical vertex
rounding_of_two_steps : rounding_of curves two_steps ≡ 25
rounding_of_two_steps = refl

-- all steps fit a budget of 500, so none is critical, and the pick's width counts alone
abbrev all_steps : Chosen
all_steps = record { picks = 5 ∷ []; cost = 500; price = record { p = 0; q = 1 }; critical = None }

bound_of_all_steps : bound_at curves 500 all_steps.picks all_steps.price ≡ 39901707478309
bound_of_all_steps = refl

rounding_of_all_steps : rounding_of curves all_steps ≡ 227
rounding_of_all_steps = refl

-- without any family
abbrev no_choice : Chosen
no_choice = record { picks = []; cost = 0; price = record { p = 0; q = 1 }; critical = None }

bound_of_none : bound_at [] 250 no_choice.picks no_choice.price ≡ 0
bound_of_none = refl

rounding_of_none : rounding_of [] no_choice ≡ 1
rounding_of_none = refl
