-- The limits of points, prices and curves. What a fleet's tables can say stays within them.
use Rattle.std.specs.Prelude.{ℕ, ◌^◌}

-- the most cost of a point, in whole money: 9 parts with 63 units at 16 sites, each of at most 10^8, cost less
abbrev pub most_cost : ℕ
most_cost = 1000000000000

-- the ends of a point's score, in units of 2^-48, are below it: a base's score is below 2^70, and there are 15 bases
abbrev pub end_limit : ℕ
end_limit = 2 ^ 74

-- the most units of a price, in units of 2^-48: a step falls by less than the limit of ends
abbrev pub most_price_units : ℕ
most_price_units = 2 ^ 74

-- the most money of a price: a step costs no more than a point
abbrev pub most_price_money : ℕ
most_price_money = 1000000000000

-- the largest Lagrangian of a point: 10^12 of money times its lower end and 2^74 units times its cost come to less
abbrev pub most_floor : ℕ
most_floor = 2 ^ 115

-- the most vertices of a curve: a place among them is a number of 32 bits, and a family's curve is far shorter
abbrev pub most_points : ℕ
most_points = 2 ^ 31

-- the most curves that are chosen from together: each is a line unit's, of at most 2,000 parts
abbrev pub most_curves : ℕ
most_curves = 2000

-- the most curves that are summed: each is a base's, and there are 15 bases
abbrev pub most_summed : ℕ
most_summed = 16

-- the largest sum of an end of each curve, in units of 2^-48: 2,000 ends below 2^74 come to less
abbrev pub most_total : ℕ
most_total = 2 ^ 85
