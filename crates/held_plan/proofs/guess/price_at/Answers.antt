use Rattle.std.proofs.Common.{◌≡◌, ◌+◌, ◌%◌, ◌<◌, ◌≤◌, sym, subst, arith}
use Rattle.held_plan.proofs.Prices.{price_least, price_most, price_whole}
use Rattle.held_plan.proofs.guess.price_at.Goals as goal

pub returns-clause-price : goal.returns-clause-price
returns-clause-price c =
    let is : c.from.result ≡ 4 + c.args.number % 4 = omega (arith, c.from.ensures) in
    price_whole c.from.result c.args.number is c.requires.last

pub returns-clause-least : goal.returns-clause-least
returns-clause-least c =
    let is : c.from.result ≡ 4 + c.args.number % 4 = omega (arith, c.from.ensures) in
    subst (λ n. 256 ≤ n) (sym (price_whole c.from.result c.args.number is c.requires.last)) (price_least c.args.number c.requires.first)

pub returns-clause-most : goal.returns-clause-most
returns-clause-most c =
    let is : c.from.result ≡ 4 + c.args.number % 4 = omega (arith, c.from.ensures) in
    subst (λ n. n < 4722366482869645213696) (sym (price_whole c.from.result c.args.number is c.requires.last)) (price_most c.args.number c.requires.last)
