-- Document 01, "Sessions": the request in the 18 bytes of a record's body.
-- Assumes nothing.
use Rattle.std.specs.Prelude.{◌≡◌, cond, List, [], ◌∷◌, ◌++◌, ℕ, ◌+◌, ◌-◌, ◌*◌, ◌/◌, ◌%◌, ◌<◌, ltb, ℤ, pos, negsuc, ◌-ℤ◌, length, get_or}
use Rattle.std.specs.Int.Signed.{mag}
use Rattle.scaler.specs.declared.request.Request.{Request}

-- the 16-bit number at a place, low byte first
unfoldable pub word_at : List ℕ → ℕ → ℕ
word_at body i = get_or body i 0 + 256 * get_or body (i + 1) 0

-- a byte in two's complement
unfoldable pub signed : ℕ → ℤ
signed b = cond (ltb b 128) (pos b) (pos b -ℤ pos 256)

-- standard, then InPix, InLin, InPpl, OutPix, OutLin, YSKIP, XOFS and YOFSO, then offset
unfoldable pub request_of : List ℕ → Request
request_of body =
    record {
      standard = get_or body 0 0;
      inpix = word_at body 1;
      inlin = word_at body 3;
      inppl = word_at body 5;
      outpix = word_at body 7;
      outlin = word_at body 9;
      offset = signed (get_or body 17 0);
      yskip = word_at body 11;
      xofs = record { 0 = word_at body 13 };
      yofso = word_at body 15;
    }

-- ---- a request's bytes

-- a 16-bit number, low byte first
unfoldable pub half_bytes : ℕ → List ℕ
half_bytes v = v % 256 ∷ v / 256 ∷ []

-- a number in two's complement: -1 is 255, -2 is 254
unfoldable pub unsigned : ℤ → ℕ
unsigned (pos n) = n
unsigned (negsuc n) = 255 - n

-- the same order
unfoldable pub request_bytes : Request → List ℕ
request_bytes q =
    q.standard
    ∷ (half_bytes q.inpix ++ (half_bytes q.inlin ++ (half_bytes q.inppl ++ (half_bytes q.outpix
    ++ (half_bytes q.outlin ++ (half_bytes q.yskip ++ (half_bytes q.xofs.0 ++ (half_bytes q.yofso
    ++ (unsigned q.offset ∷ [])))))))))

-- Requests and their 18 bytes correspond: any bytes are a request's, and any request whose offset is from
-- -128 to 127 is its bytes'.
pub record RequestsCross : Type 0 where
  pub there : (bytes : List ℕ) → length bytes ≡ 18 → ((i : ℕ) → get_or bytes i 0 < 256)
      → request_bytes (request_of bytes) ≡ bytes
  pub back : (q : Request) → mag q.offset < 128 → request_of (request_bytes q) ≡ q
