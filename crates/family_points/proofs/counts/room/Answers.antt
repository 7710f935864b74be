use Rattle.std.proofs.Common.{◌+◌, ◌*◌, ◌≤◌, List, ℕ, length, get_or, sym, ap, ◌∙◌, subst, arith}
use Rattle.family_points.specs.Rooms.{AreRooms, widths_at}
use Rattle.family_points.proofs.Bounded.{ids_long}
use Rattle.family_points.proofs.Placed.{ids_there}
use Rattle.family_points.proofs.Rooms.{high_inside, low_inside, part_read, room_held, room_ordered, room_small, room_whole, room_within}
use Rattle.family_points.proofs.TableFacts.{high_within, low_within}
use Rattle.family_points.proofs.Whole.{ids_within}
use Rattle.family_points.proofs.counts.room.Goals as goal

pub limit-requires-clause-part : goal.limit-requires-clause-part
limit-requires-clause-part c =
    let k = c.args.case.now in
    let l = c.args.line.0 in
    let ids = c.family-members.result.now in
    let valid = c.invariant.ensures.valid in
    ids_within k l ids valid c.requires.line c.family-members.ensures c.args.place (record { 0 = 0 }) (omega (arith, c.requires.place, ids_long k l ids c.family-members.ensures))

pub limit-requires-in-Held-clause-part : goal.limit-requires-in-Held-clause-part
limit-requires-in-Held-clause-part c =
    let k = c.args.case.now in
    let l = c.args.line.0 in
    let ids = c.family-members.result.now in
    let valid = c.invariant.ensures.valid in
    ids_within k l ids valid c.requires.line c.family-members.ensures c.args.place (record { 0 = 0 }) (omega (arith, c.requires.place, ids_long k l ids c.family-members.ensures))

pub get-requires : goal.get-requires
get-requires c =
    let k = c.args.case.now in
    let l = c.args.line.0 in
    let ids = c.family-members.result.now in
    let valid = c.invariant.ensures.valid in
    let own = subst (AreRooms k l) c.in-Held.is c.requires.rooms in
    ids_there k l c.args.site.0 ids c.in-Held.held.now valid c.requires.line own.is_for c.requires.site c.family-members.ensures c.args.place (record { 0 = 0 }) (omega (arith, c.requires.place, ids_long k l ids c.family-members.ensures))

pub part_of-low-requires-clause-within : goal.part_of-low-requires-clause-within
part_of-low-requires-clause-within c =
    let k = c.args.case.now in
    let l = c.args.line.0 in
    let ids = c.family-members.result.now in
    let valid = c.invariant.ensures.valid in
    let b = c.in-Within.bounds.now in
    let ordered = subst (AreRooms k l) c.in-Within.is c.requires.rooms in
    let n = ids_long k l ids c.family-members.ensures in
    subst (λ (v : List ℕ). c.args.site.0 * length ids + length ids ≤ length v) (sym c.as_slice.ensures)
    (low_within k l b.held b.low b.high valid c.requires.line ordered (length ids) c.args.site.0 n c.requires.site)

pub part_of-high-requires-clause-within : goal.part_of-high-requires-clause-within
part_of-high-requires-clause-within c =
    let k = c.args.case.now in
    let l = c.args.line.0 in
    let ids = c.family-members.result.now in
    let valid = c.invariant.ensures.valid in
    let b = c.in-Within.bounds.now in
    let ordered = subst (AreRooms k l) c.in-Within.is c.requires.rooms in
    let n = ids_long k l ids c.family-members.ensures in
    subst (λ (v : List ℕ). c.args.site.0 * length ids + length ids ≤ length v) (sym c.as_slice-in-Within.ensures)
    (high_within k l b.held b.low b.high valid c.requires.line ordered (length ids) c.args.site.0 n c.requires.site)

pub bounds-high-place : goal.bounds-high-place
bounds-high-place c =
    let k = c.args.case.now in
    let l = c.args.line.0 in
    let ids = c.family-members.result.now in
    let valid = c.invariant.ensures.valid in
    let b = c.in-Within.bounds.now in
    let ordered = subst (AreRooms k l) c.in-Within.is c.requires.rooms in
    let n = ids_long k l ids c.family-members.ensures in
    let low = part_read k l (length ids) c.args.site.0 b.low c.as_slice.result.now c.part_of-low.result.now n c.as_slice.ensures c.part_of-low.ensures in
    let high = part_read k l (length ids) c.args.site.0 b.high c.as_slice-in-Within.result.now c.part_of-high.result.now n c.as_slice-in-Within.ensures c.part_of-high.ensures in
    high_inside k l b.held b.low b.high valid c.requires.line ordered c.args.site.0 c.args.place c.requires.site c.requires.place c.part_of-low.result.now c.part_of-high.result.now low high

pub bounds-low-place : goal.bounds-low-place
bounds-low-place c =
    let k = c.args.case.now in
    let l = c.args.line.0 in
    let ids = c.family-members.result.now in
    let valid = c.invariant.ensures.valid in
    let b = c.in-Within.bounds.now in
    let ordered = subst (AreRooms k l) c.in-Within.is c.requires.rooms in
    let n = ids_long k l ids c.family-members.ensures in
    let low = part_read k l (length ids) c.args.site.0 b.low c.as_slice.result.now c.part_of-low.result.now n c.as_slice.ensures c.part_of-low.ensures in
    let high = part_read k l (length ids) c.args.site.0 b.high c.as_slice-in-Within.result.now c.part_of-high.result.now n c.as_slice-in-Within.ensures c.part_of-high.ensures in
    low_inside k l b.held b.low b.high valid c.requires.line ordered c.args.site.0 c.args.place c.requires.site c.requires.place c.part_of-low.result.now c.part_of-high.result.now low high

pub overflow_sub-high : goal.overflow_sub-high
overflow_sub-high c =
    let k = c.args.case.now in
    let l = c.args.line.0 in
    let ids = c.family-members.result.now in
    let valid = c.invariant.ensures.valid in
    let b = c.in-Within.bounds.now in
    let ordered = subst (AreRooms k l) c.in-Within.is c.requires.rooms in
    let n = ids_long k l ids c.family-members.ensures in
    let low = part_read k l (length ids) c.args.site.0 b.low c.as_slice.result.now c.part_of-low.result.now n c.as_slice.ensures c.part_of-low.ensures in
    let high = part_read k l (length ids) c.args.site.0 b.high c.as_slice-in-Within.result.now c.part_of-high.result.now n c.as_slice-in-Within.ensures c.part_of-high.ensures in
    room_ordered k l b.held b.low b.high valid c.requires.line ordered c.args.site.0 c.args.place c.requires.site c.requires.place c.part_of-low.result.now c.part_of-high.result.now low high

pub returns-in-Whole-clause-room : goal.returns-in-Whole-clause-room
returns-in-Whole-clause-room c =
    let k = c.args.case.now in
    let l = c.args.line.0 in
    let ids = c.family-members.result.now in
    let valid = c.invariant.ensures.valid in
    room_whole k l c.args.site.0 c.args.place c.from.result ids (record { 0 = 0 }) c.family-members.ensures c.requires.site c.requires.place (omega (arith, c.requires.place, ids_long k l ids c.family-members.ensures))
    (c.from.ensures ∙ c.limit.ensures.limit)
    ∙ sym (ap (λ r. get_or (widths_at k l r c.args.site.0) c.args.place 0) c.in-Whole.is)

pub returns-in-Held-clause-room : goal.returns-in-Held-clause-room
returns-in-Held-clause-room c =
    let k = c.args.case.now in
    let l = c.args.line.0 in
    let ids = c.family-members.result.now in
    let valid = c.invariant.ensures.valid in
    let own = subst (AreRooms k l) c.in-Held.is c.requires.rooms in
    ap (λ n. n + 1) c.from-in-Held.ensures
    ∙ room_held k l c.args.site.0 c.args.place c.limit-in-Held.result c.get.result c.in-Held.held.now ids (record { 0 = 0 }) c.family-members.ensures c.requires.site c.requires.place (omega (arith, c.requires.place, ids_long k l ids c.family-members.ensures))
    valid c.requires.line own.is_for own.limits c.limit-in-Held.ensures.limit c.get.ensures
    ∙ sym (ap (λ r. get_or (widths_at k l r c.args.site.0) c.args.place 0) c.in-Held.is)

pub returns-in-Within-clause-room : goal.returns-in-Within-clause-room
returns-in-Within-clause-room c =
    let k = c.args.case.now in
    let l = c.args.line.0 in
    let ids = c.family-members.result.now in
    let valid = c.invariant.ensures.valid in
    let b = c.in-Within.bounds.now in
    let ordered = subst (AreRooms k l) c.in-Within.is c.requires.rooms in
    let n = ids_long k l ids c.family-members.ensures in
    let low = part_read k l (length ids) c.args.site.0 b.low c.as_slice.result.now c.part_of-low.result.now n c.as_slice.ensures c.part_of-low.ensures in
    let high = part_read k l (length ids) c.args.site.0 b.high c.as_slice-in-Within.result.now c.part_of-high.result.now n c.as_slice-in-Within.ensures c.part_of-high.ensures in
    ap (λ n. n + 1) c.from-in-Within.ensures ∙ room_within k l b.held b.low b.high valid c.requires.line ordered c.args.site.0 c.args.place c.requires.site c.requires.place c.part_of-low.result.now c.part_of-high.result.now low high
    ∙ sym (ap (λ r. get_or (widths_at k l r c.args.site.0) c.args.place 0) c.in-Within.is)

pub returns-in-Within-clause-most : goal.returns-in-Within-clause-most
returns-in-Within-clause-most c =
    let k = c.args.case.now in
    let l = c.args.line.0 in
    let ids = c.family-members.result.now in
    let valid = c.invariant.ensures.valid in
    let b = c.in-Within.bounds.now in
    let ordered = subst (AreRooms k l) c.in-Within.is c.requires.rooms in
    let n = ids_long k l ids c.family-members.ensures in
    let low = part_read k l (length ids) c.args.site.0 b.low c.as_slice.result.now c.part_of-low.result.now n c.as_slice.ensures c.part_of-low.ensures in
    let high = part_read k l (length ids) c.args.site.0 b.high c.as_slice-in-Within.result.now c.part_of-high.result.now n c.as_slice-in-Within.ensures c.part_of-high.ensures in
    let small = room_small k l b.held b.low b.high valid c.requires.line ordered c.args.site.0 c.args.place c.requires.site c.requires.place c.part_of-low.result.now c.part_of-high.result.now low high in
    omega (arith, small, c.from-in-Within.ensures)
