-- The S-box and its inverse as a circuit of sums and products of bits, in its parts, after Boyar
-- and Peralta. A byte is two elements of a field of 16 elements; nine forms of the one are
-- multiplied by nine of the other, and give their norm; the norm is inverted in that field, and
-- multiplied by the forms of both. Bits of a byte are in a list, the lowest first.
use Rattle.std.specs.Prelude.{ℕ, List, [], ◌∷◌, slice_index, bit_xor, bit_and}
use Rattle.aes_core.specs.Planes.{bit_in}
use Rattle.aes_core.specs.declared.inversion.Forms.{Forms}
use Rattle.aes_core.specs.declared.inversion.Quartet.{Quartet}
use Rattle.aes_core.specs.declared.inversion.Products.{Products}

-- the forms of block k's byte at place p, and so on
abbrev pub forms_in : ℕ → ℕ → Forms → List ℕ
forms_in k p f =
    bit_in k p f.y0 ∷ bit_in k p f.y1 ∷ bit_in k p f.y2 ∷ bit_in k p f.y3 ∷ bit_in k p f.y4
    ∷ bit_in k p f.y5
    ∷ bit_in k p f.y6 ∷ bit_in k p f.y7 ∷ bit_in k p f.y8 ∷ bit_in k p f.y9 ∷ bit_in k p f.y10
    ∷ bit_in k p f.y11
    ∷ bit_in k p f.y12 ∷ bit_in k p f.y13 ∷ bit_in k p f.y14 ∷ bit_in k p f.y15 ∷ bit_in k p f.y16
    ∷ bit_in k p f.y17
    ∷ bit_in k p f.y18 ∷ bit_in k p f.y19 ∷ bit_in k p f.y20 ∷ bit_in k p f.y21 ∷ []

abbrev pub quartet_in : ℕ → ℕ → Quartet → List ℕ
quartet_in k p q = bit_in k p q.q0 ∷ bit_in k p q.q1 ∷ bit_in k p q.q2 ∷ bit_in k p q.q3 ∷ []

abbrev pub products_in : ℕ → ℕ → Products → List ℕ
products_in k p z =
    bit_in k p z.z0 ∷ bit_in k p z.z1 ∷ bit_in k p z.z2 ∷ bit_in k p z.z3 ∷ bit_in k p z.z4
    ∷ bit_in k p z.z5
    ∷ bit_in k p z.z6 ∷ bit_in k p z.z7 ∷ bit_in k p z.z8 ∷ bit_in k p z.z9 ∷ bit_in k p z.z10
    ∷ bit_in k p z.z11
    ∷ bit_in k p z.z12 ∷ bit_in k p z.z13 ∷ bit_in k p z.z14 ∷ bit_in k p z.z15 ∷ bit_in k p z.z16
    ∷ bit_in k p z.z17 ∷ []

-- the forms of a byte's bits b
unfoldable pub linear_forms : List ℕ → List ℕ
linear_forms bits =
    let b : ℕ → ℕ = slice_index bits in
    let y14 = bit_xor (b 4) (b 2) in
    let y13 = bit_xor (b 7) (b 1) in
    let y9 = bit_xor (b 7) (b 4) in
    let y8 = bit_xor (b 7) (b 2) in
    let t0 = bit_xor (b 6) (b 5) in
    let y1 = bit_xor t0 (b 0) in
    let y12 = bit_xor y13 y14 in
    let y5 = bit_xor y1 (b 1) in
    let t1 = bit_xor (b 3) y12 in
    let y15 = bit_xor t1 (b 2) in
    let y20 = bit_xor t1 (b 6) in
    let y10 = bit_xor y15 t0 in
    let y11 = bit_xor y20 y9 in
    let y16 = bit_xor t0 y11 in
    b 0 ∷ y1 ∷ bit_xor y1 (b 7) ∷ bit_xor y5 y8 ∷ bit_xor y1 (b 4) ∷ y5
    ∷ bit_xor y15 (b 0) ∷ bit_xor (b 0) y11 ∷ y8 ∷ y9 ∷ y10 ∷ y11
    ∷ y12 ∷ y13 ∷ y14 ∷ y15 ∷ y16 ∷ bit_xor y10 y11
    ∷ bit_xor (b 7) y16 ∷ bit_xor y10 y8 ∷ y20 ∷ bit_xor y13 y16 ∷ []

-- the forms of the bits of a byte that the affine transformation made
unfoldable pub inverse_forms : List ℕ → List ℕ
inverse_forms bits =
    let b : ℕ → ℕ = slice_index bits in
    let y3 = bit_xor (b 4) (b 7) in
    let y19 = bit_xor (b 0) (b 3) in
    let y8 = bit_xor (b 6) (b 7) in
    let y9 = bit_xor (b 3) (b 4) in
    let y5 = bit_xor (b 4) (b 6) in
    let y1 = bit_xor y19 (b 4) in
    let y13 = bit_xor y1 (b 1) in
    let y2 = bit_xor y13 y5 in
    let y14 = bit_xor y9 y8 in
    let y6 = bit_xor y3 (b 6) in
    let y18 = bit_xor y9 (b 5) in
    let y7 = bit_xor y18 y2 in
    let y16 = bit_xor y7 y1 in
    let y4 = bit_xor y2 y9 in
    let t0 = bit_xor (b 2) (b 7) in
    let y0 = bit_xor t0 (b 5) in
    let y15 = bit_xor y0 y6 in
    y0 ∷ y1 ∷ y2 ∷ y3 ∷ y4 ∷ y5
    ∷ y6 ∷ y7 ∷ y8 ∷ y9 ∷ bit_xor y8 y19 ∷ bit_xor t0 y4
    ∷ bit_xor y14 y13 ∷ y13 ∷ y14 ∷ y15 ∷ y16 ∷ bit_xor y15 y16
    ∷ y18 ∷ y19 ∷ bit_xor t0 y2 ∷ bit_xor y7 (b 1) ∷ []

-- their norm
unfoldable pub norm : List ℕ → List ℕ
norm forms =
    let y : ℕ → ℕ = slice_index forms in
    let t2 = bit_and (y 12) (y 15) in
    let t4 = bit_xor (bit_and (y 3) (y 6)) t2 in
    let t6 = bit_xor (bit_and (y 4) (y 0)) t2 in
    let t7 = bit_and (y 13) (y 16) in
    let t9 = bit_xor (bit_and (y 5) (y 1)) t7 in
    let t11 = bit_xor (bit_and (y 2) (y 7)) t7 in
    let t12 = bit_and (y 9) (y 11) in
    let t14 = bit_xor (bit_and (y 14) (y 17)) t12 in
    let t16 = bit_xor (bit_and (y 8) (y 10)) t12 in
    bit_xor (bit_xor t4 t14) (y 20) ∷ bit_xor (bit_xor t6 t16) (y 19)
    ∷ bit_xor (bit_xor t9 t14) (y 21) ∷ bit_xor (bit_xor t11 t16) (y 18) ∷ []

-- the inverse in the field of 16 elements
unfoldable pub inverted : List ℕ → List ℕ
inverted quartet =
    let q : ℕ → ℕ = slice_index quartet in
    let t25 = bit_xor (q 0) (q 1) in
    let t26 = bit_and (q 0) (q 2) in
    let t27 = bit_xor (q 3) t26 in
    let t29 = bit_xor (bit_and t25 t27) (q 1) in
    let t33 = bit_xor (bit_and (bit_xor (q 1) t26) (bit_xor (q 2) (q 3))) (q 3) in
    let t36 = bit_and (q 3) (bit_xor t27 t33) in
    let t37 = bit_xor t36 (bit_xor (q 2) t33) in
    let t40 = bit_xor t25 (bit_and t29 (bit_xor t27 t36)) in
    t29 ∷ t33 ∷ t37 ∷ t40 ∷ []

-- the products of the forms by an element of the field of 16
unfoldable pub multiplied : List ℕ → List ℕ → List ℕ
multiplied forms quartet =
    let y : ℕ → ℕ = slice_index forms in
    let q : ℕ → ℕ = slice_index quartet in
    let t41 = bit_xor (q 3) (q 2) in
    let t42 = bit_xor (q 0) (q 1) in
    let t43 = bit_xor (q 0) (q 3) in
    let t44 = bit_xor (q 1) (q 2) in
    let t45 = bit_xor t42 t41 in
    bit_and t44 (y 15) ∷ bit_and (q 2) (y 6) ∷ bit_and (q 1) (y 0)
    ∷ bit_and t43 (y 16) ∷ bit_and (q 3) (y 1) ∷ bit_and (q 0) (y 7)
    ∷ bit_and t42 (y 11) ∷ bit_and t45 (y 17) ∷ bit_and t41 (y 10)
    ∷ bit_and t44 (y 12) ∷ bit_and (q 2) (y 3) ∷ bit_and (q 1) (y 4)
    ∷ bit_and t43 (y 13) ∷ bit_and (q 3) (y 5) ∷ bit_and (q 0) (y 2)
    ∷ bit_and t42 (y 9) ∷ bit_and t45 (y 14) ∷ bit_and t41 (y 8) ∷ []

-- the bits of the affine transformation of the inverse, less its constant
unfoldable pub sums : List ℕ → List ℕ
sums products =
    let z : ℕ → ℕ = slice_index products in
    let t46 = bit_xor (z 15) (z 16) in
    let t48 = bit_xor (z 5) (z 13) in
    let t53 = bit_xor (z 0) (z 3) in
    let t57 = bit_xor (bit_xor (z 2) (z 12)) t53 in
    let t58 = bit_xor (z 4) t46 in
    let t59 = bit_xor (z 3) (bit_xor (z 6) (z 7)) in
    let t62 = bit_xor (bit_xor (z 7) (z 8)) t58 in
    let t63 = bit_xor (bit_xor (z 9) (z 10)) t58 in
    let t64 = bit_xor (z 4) t59 in
    let t65 = bit_xor (bit_xor (z 14) t57) t62 in
    let t66 = bit_xor (z 1) t63 in
    let b4 = bit_xor t53 t66 in
    bit_xor t48 (bit_xor t46 t57)
    ∷ bit_xor (bit_xor (z 12) t48) t62
    ∷ bit_xor (bit_xor (z 10) (z 11)) t65
    ∷ bit_xor (bit_xor (z 2) (z 5)) t66
    ∷ b4
    ∷ bit_xor (bit_xor (z 16) (z 17)) (bit_xor t64 t65)
    ∷ bit_xor t64 b4
    ∷ bit_xor t59 t63 ∷ []

-- the bits of the inverse
unfoldable pub inverse_sums : List ℕ → List ℕ
inverse_sums products =
    let z : ℕ → ℕ = slice_index products in
    let t0 = bit_xor (z 12) (z 16) in
    let t3 = bit_xor (bit_xor (z 6) (z 13)) (bit_xor (z 15) t0) in
    let t4 = bit_xor (z 5) (z 3) in
    let b7 = bit_xor t4 (bit_xor (z 8) t3) in
    let t7 = bit_xor (z 0) t4 in
    let t9 = bit_xor t3 (bit_xor (z 4) (z 3)) in
    let t11 = bit_xor (z 17) (bit_xor (z 9) (z 11)) in
    let b2 = bit_xor (bit_xor (z 1) (z 8)) (bit_xor t7 t9) in
    let b1 = bit_xor (z 7) t9 in
    let t16 = bit_xor (z 2) t7 in
    let t18 = bit_xor t16 (bit_xor (z 10) (z 11)) in
    let t20 = bit_xor t18 (bit_xor (z 14) b2) in
    bit_xor (z 15) t11
    ∷ b1
    ∷ b2
    ∷ bit_xor (bit_xor (z 16) (z 17)) (bit_xor b1 t18)
    ∷ bit_xor b7 t16
    ∷ bit_xor (z 13) t20
    ∷ bit_xor t20 (bit_xor t0 t11)
    ∷ b7 ∷ []

-- the products for the inverse of the element whose forms these are
abbrev pub inversion : List ℕ → List ℕ
inversion forms = multiplied forms (inverted (norm forms))
