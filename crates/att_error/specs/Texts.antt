-- The texts of the error codes (document 01, "Error texts"; the `Display` of att.rs, byte for byte, its slips kept: OP-043). A code of
-- the table has its own text; 80 to 9F share the application text; all others get the unknown text, in decimal (OP-044).
use Rattle.std.specs.Prelude.{ℕ, List, [], ◌∷◌, ◌++◌, map, leb, Option, Some, None}
use Rattle.codec.specs.Ascii.{ascii}
use Rattle.codec.specs.Cases.{pick, lookup}
use Rattle.text_decimal.specs.Decimal.{decimal_text}

unfoldable pub texts : List (ℕ × List ℕ)
texts =
    (0x01, ascii "invalid handle: Attempted to use a handle that isn't valid on this server")
    ∷ (0x02, ascii "read not permitted: the attribute cannot be read")
    ∷ (0x03, ascii "write not permitted: the attribute cannot be written due to permissions")
    ∷ (0x04, ascii "invalid pdu: the attribute PDU was invalid")
    ∷ (0x05, ascii "insufficient authentication: the attribute requires authentication before it can be written")
    ∷ (0x06, ascii "request not supported: ATT server does not support the request received from the client")
    ∷ (0x07, ascii "Offset specified was past the end of the attribute")
    ∷ (0x08, ascii "insufficient authorisation: the attribute requires authorisation before it can be read or written")
    ∷ (0x09, ascii "prepare queue full: too many prepare writes have been queued")
    ∷ (0x0A, ascii "attribute not found: no attribute found within the given attribute handle range")
    ∷ (0x0B, ascii "The attribute cannot be read using the ATT_READ_BLOB_REQ PDU")
    ∷ (0x0C, ascii "insufficient encryption key size: the encryption key size used for encrypting this link is too short")
    ∷ (0x0D, ascii "invalid attribute value length: the attribute value length is invalid for the operation")
    ∷ (0x0E, ascii "unlikely error: the attribute request encountered an error that was unlikely, and therefore could not be completed")
    ∷ (0x0F, ascii "insufficient encryption: the attribute requires encryption before it can be read or written")
    ∷ (0x10, ascii "unsupported group type: the attribute type is not a supported grouping attribute as defined by a higher layer specification")
    ∷ (0x11, ascii "insufficient resources: insufficient resources to complete the request")
    ∷ (0x12, ascii "the server requests the client to rediscover the database")
    ∷ (0x13, ascii "value not allowed: the attribute parameter value was not allowed")
    ∷ (0xFC, ascii "write request rejected: the write request could not be fulfilled for reasons other than permissions")
    ∷ (0xFD, ascii "CCCD improperly configured: the client characteristic configuration descriptor (CCCD) is not configured according to the requirements of the profile or service")
    ∷ (0xFE, ascii "procedure already in progress: the profile or service request could not be serviced because an operation that has been previousl triggered is still in progress")
    ∷ (0xFF, ascii "out of range: the attribute value is out of range as defined by a profile or service specification")
    ∷ []

-- a code's own text, if it has one
abbrev pub own_row : ℕ × List ℕ → ℕ × Option (List ℕ)
own_row row = (row.0, Some row.1)

abbrev pub own_text : ℕ → Option (List ℕ)
own_text code = lookup code (map own_row texts) None

unfoldable pub application : ℕ → List ℕ
application code = ascii "application error code " ++ (decimal_text code ++ ascii ": check the application documentation of the device which produced this error code")

unfoldable pub unknown : ℕ → List ℕ
unknown code = ascii "unknown error code " ++ (decimal_text code ++ ascii ": check the most recent bluetooth spec")

abbrev pub shared : ℕ → List ℕ
shared code = pick (leb 0x80 code) (pick (leb code 0x9F) (application code) (unknown code)) (unknown code)

unfoldable pub text_of : ℕ → List ℕ
text_of code = lookup code texts (shared code)

-- the codes of the table
unfoldable pub codes : List ℕ
codes = map (λ (row : ℕ × List ℕ). row.0) texts
