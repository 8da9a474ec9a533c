mod Allowing
