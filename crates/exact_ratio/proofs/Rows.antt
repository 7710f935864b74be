-- What some texts read as: "12.5", "5.", "1.2.3", ".", "0.001" and "20" with two places, and 2^64 with none.
use Rattle.std.specs.Prelude.{◌≡◌, refl, Ok, Err, codes}
use Rattle.exact_ratio.specs.declared.decimal.NumberFault.TheVariants.{BadByte, Empty, TooManyPlaces, TooLarge}
use Rattle.exact_ratio.specs.Decimal.{decimal_of}

with_point : decimal_of (codes "12.5") 2 ≡ Ok (record { units = 1250; places = 2 })
unfolding decimal_of
with_point = refl

no_fraction : decimal_of (codes "5.") 2 ≡ Ok (record { units = 500; places = 2 })
unfolding decimal_of
no_fraction = refl

no_point : decimal_of (codes "20") 2 ≡ Ok (record { units = 2000; places = 2 })
unfolding decimal_of
no_point = refl

second_point : decimal_of (codes "1.2.3") 2 ≡ Err (BadByte 3)
unfolding decimal_of
second_point = refl

no_digit : decimal_of (codes ".") 2 ≡ Err Empty
unfolding decimal_of
no_digit = refl

late_digit : decimal_of (codes "0.001") 2 ≡ Err TooManyPlaces
unfolding decimal_of
late_digit = refl

over : decimal_of (codes "18446744073709551616") 0 ≡ Err TooLarge
unfolding decimal_of
over = refl
