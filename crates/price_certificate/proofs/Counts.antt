-- Numbers that were read stand within their ranges.
use Rattle.std.proofs.Common.{◌≡◌, ℕ, ◌^◌, ◌<◌, ◌≤◌, List, true, Ok, arith}
use Rattle.line_text.specs.Formats.{Token}
use Rattle.line_text.specs.Texts.{count_line}
use Rattle.line_text.proofs.Public.{is_field, a_field, count_line_is_exact}
use Rattle.price_certificate.proofs.Fits.{count_within}

-- the number of a line that was read is below what is above its most
pub count_below : (w : Token) (least most top n : ℕ) (ts left : List Token) → is_field w ≡ true → least ≤ most → most < 10 ^ 64 → most < top → (count_line w least most).read ts ≡ Ok (n, left) → n < top
count_below w least most top n ts left f h m t e =
    let small : n ≤ most = (count_within w least most n ((count_line_is_exact w least most (a_field w f) h m).takes ts n left e).0).1 in
    omega arith
