-- The number of a family's vectors.
use Rattle.std.proofs.Common.{◌≡◌, ℕ, zero, suc, ◌+◌, ◌-◌, ◌*◌, ◌^◌, ◌≤◌, List, [], ◌∷◌, ◌++◌, length, map, flat_map, sym, ap, ap₂, ◌∙◌, arith}
use Rattle.std.specs.List.{range_with_len}
use Rattle.std.proofs.lemmas.Simd.{map-map}
use Rattle.std.proofs.Math.Nat.{mul_assoc, mul_comm, pow-suc, pow-zero}
use Rattle.list_laws.proofs.Public.{each_any, map_flat, same_flat, same_map}
use Rattle.spares_input.specs.Stocks.{limit_at}
use Rattle.spares_input.specs.Cases.{CaseRows, IsCase}
use Rattle.fleet_model.specs.Fleet.{family}
use Rattle.family_points.specs.Vectors.{Pair, limits, places, vectors, zeros}
use Rattle.family_points.specs.Counts.{product, depot_width, base_width, choices_of}
use Rattle.family_points.proofs.Counting.{product_split}
use Rattle.family_points.proofs.Numbers.{vectors_count}
use Rattle.family_points.proofs.Whole.{base_limit, limits_rows, none_zip, widths_all}

-- the product of two lists together is that of their products
pub product_append : (xs ys : List ℕ) → product (xs ++ ys) ≡ product xs * product ys
product_append [] ys = omega arith
product_append (x ∷ xs) ys = ap (λ n. x * n) (product_append xs ys) ∙ sym (mul_assoc x (product xs) (product ys))

-- rows that have one product
product_rows : (h : ℕ → List ℕ) (b n a : ℕ) → ((k : ℕ) → a ≤ k → product (h k) ≡ b) → product (flat_map h (range_with_len a n)) ≡ b ^ n
product_rows h b zero a e = sym (pow-zero b)
product_rows h b (suc n) a e =
    product_append (h a) (flat_map h (range_with_len (a + 1) n))
    ∙ ap₂ (λ x y. x * y) (e a (omega arith)) (product_rows h b n (a + 1) (λ k l. e k (omega (arith, l))))
    ∙ mul_comm b (b ^ n) ∙ sym (pow-suc b n)

module _ (c : CaseRows) (l : ℕ) where
  -- the widths of the family at site k
  row : ℕ → List ℕ
  row k = map (λ p. limit_at c.parts p k + 1) (family c l)

  at_bases : (k : ℕ) → 1 ≤ k → product (row k) ≡ product (map (base_width c) (family c l))
  unfolding row
  at_bases k some =
      ap product (same_map (λ p. Unit {0}) (λ p. limit_at c.parts p k + 1) (base_width c) (family c l) (λ p _. base_limit c p k some) (each_any (family c l)))

  all_rows : (n : ℕ) → product (flat_map row (range_with_len 0 (suc n))) ≡ product (map (depot_width c) (family c l)) * product (map (base_width c) (family c l)) ^ n
  unfolding row
  all_rows n =
      product_append (row 0) (flat_map row (range_with_len 1 n))
      ∙ ap (λ m. product (row 0) * m) (product_rows row (product (map (base_width c) (family c l))) n 1 at_bases)

  more_rows : let more : ℕ → ℕ = λ n. n + 1 in map more (limits c l) ≡ flat_map row (range_with_len 0 (length c.sites))
  unfolding row
  more_rows =
      let more : ℕ → ℕ = λ n. n + 1 in
      let own : ℕ → ℕ → ℕ = λ k p. limit_at c.parts p k in
      ap (map more) (limits_rows c l)
      ∙ map_flat more (λ k. map (own k) (family c l)) (range_with_len 0 (length c.sites))
      ∙ same_flat (λ k. Unit {0}) (λ k. map more (map (own k) (family c l))) (λ k. map (λ p. limit_at c.parts p k + 1) (family c l)) (range_with_len 0 (length c.sites))
      (λ k _. map-map more (own k) (family c l)) (each_any (range_with_len 0 (length c.sites)))

  -- a family has as many choices as there are vectors up to its limits
  pub choices_counted : IsCase c → choices_of c l ≡ length (vectors (zeros c l) (limits c l))
  choices_counted valid =
      let limit : Pair → ℕ = λ x. limit_at c.parts x.part x.site in
      let some : suc (length c.sites - 1) ≡ length c.sites = omega (arith, valid.frame.fewest_sites) in
      product_split (depot_width c) (base_width c) (length c.sites - 1) (family c l)
      ∙ sym (vectors_count (zeros c l) (limits c l) (none_zip limit (places c l)) ∙ ap product (widths_all limit (places c l) ∙ more_rows)
      ∙ ap (λ n. product (flat_map row (range_with_len 0 n))) (sym some) ∙ all_rows (length c.sites - 1))
