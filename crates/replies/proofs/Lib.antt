pub mod ReplyOctets
