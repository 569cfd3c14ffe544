-- `join::put_named` meets its contract. There is room for where the names stand, so the writers are given what they ask for.
use Rattle.std.proofs.Common.{sym, arith, length-take-le}
use Rattle.join.proofs.PartLaws.{few_constants, few_opens, few_roles, names_given}
use Rattle.join.proofs.put_named.Goals as goal

pub slice_bounds-constants-end : goal.slice_bounds-constants-end
slice_bounds-constants-end c = omega (arith, few_constants _ _ c.requires.0 _ _ c.spans-c.ensures.0, c.spans-c.ensures.1)

pub slice_bounds-opens-end : goal.slice_bounds-opens-end
slice_bounds-opens-end c = omega (arith, few_opens _ _ c.requires.0 _ _ c.spans-o.ensures.0, c.spans-o.ensures.1)

pub slice_bounds-roles-end : goal.slice_bounds-roles-end
slice_bounds-roles-end c = omega (arith, few_roles _ _ c.requires.0 _ _ c.spans-r.ensures.0, c.spans-r.ensures.1)

pub slice_bounds-put_given-end : goal.slice_bounds-put_given-end
slice_bounds-put_given-end c = sym (length-take-le _ c.spans-c.new.out (omega (arith, few_constants _ _ c.requires.0 _ _ c.spans-c.ensures.0, c.spans-c.ensures.1)))

pub slice_bounds-put_given-end-2 : goal.slice_bounds-put_given-end-2
slice_bounds-put_given-end-2 c = sym (length-take-le _ c.spans-o.new.out (omega (arith, few_opens _ _ c.requires.0 _ _ c.spans-o.ensures.0, c.spans-o.ensures.1)))

pub slice_bounds-put_given-end-3 : goal.slice_bounds-put_given-end-3
slice_bounds-put_given-end-3 c = sym (length-take-le _ c.spans-r.new.out (omega (arith, few_roles _ _ c.requires.0 _ _ c.spans-r.ensures.0, c.spans-r.ensures.1)))

pub put_given-requires : goal.put_given-requires
put_given-requires c =
    names_given _ _ c.requires.0 _ c.spans-c.new.out c.spans-o.new.out c.spans-r.new.out _ _ _ c.requires.1 c.spans-c.ensures.0 c.spans-o.ensures.0 c.spans-r.ensures.0
    (omega (arith, few_constants _ _ c.requires.0 _ _ c.spans-c.ensures.0, c.spans-c.ensures.1))
    (omega (arith, few_opens _ _ c.requires.0 _ _ c.spans-o.ensures.0, c.spans-o.ensures.1))
    (omega (arith, few_roles _ _ c.requires.0 _ _ c.spans-r.ensures.0, c.spans-r.ensures.1))
