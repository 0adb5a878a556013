-- What two tests say that hold together.
use Rattle.std.proofs.Common.{◌≡◌, ◌&&◌, Bool, true, false, IsTrue, refl}

pub both_left : (a b : Bool) → IsTrue (a && b) → a ≡ true
both_left true b h = refl
both_left false b h = cc

pub both_right : (a b : Bool) → IsTrue (a && b) → b ≡ true
both_right true b h = h
both_right false b h = cc
